use Rattle.mig_relay_bodies.proofs.Common.{sym, ◌∙◌}
use Rattle.mig_relay_bodies.proofs.ContextChain.{at_end, no_end, short_end, whole_says, last_ahead}
use Rattle.mig_relay_bodies.proofs.chain.context_fault.Goals as goal

pub returns-then-at-eq0 : goal.returns-then-at-eq0
returns-then-at-eq0 c = λ body whole known. sym (at_end body c.in-Entry.at (whole_says c.args.chain _ c.args.len body c.in-Entry.is whole known) (c.if-at-len.true ∙ sym whole) c.if-at-eq0.true)

pub returns-else-at-eq0 : goal.returns-else-at-eq0
returns-else-at-eq0 c = λ body whole known. sym (no_end body c.in-Entry.at (whole_says c.args.chain _ c.args.len body c.in-Entry.is whole known) (c.if-at-len.true ∙ sym whole) c.if-at-eq0.false)

pub returns-else-at-len : goal.returns-else-at-len
returns-else-at-len c = λ body whole known.
    let ahead = last_ahead c.args.chain c.in-Entry.at c.args.len body c.in-Entry.is whole known c.if-at-len.false in
    sym (short_end body c.in-Entry.at (whole_says c.args.chain _ c.args.len body c.in-Entry.is whole known) ahead.0 ahead.1)

pub returns-in-Judged : goal.returns-in-Judged
returns-in-Judged c = λ body whole known. sym (whole_says c.args.chain _ c.args.len body c.in-Judged.is whole known)
