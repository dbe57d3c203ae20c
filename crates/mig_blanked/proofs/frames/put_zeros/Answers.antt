use Rattle.std.proofs.Common.{arith, sym, ◌∙◌}
use Rattle.mig_pvtables.specs.Blank.{zero_page}
use Rattle.mig_blanked.proofs.Behind.{zeros_for, zeros_none}
use Rattle.mig_blanked.proofs.frames.put_zeros.Goals as goal

pub returns-then-place-eq0-clause-bytes : goal.returns-then-place-eq0-clause-bytes
returns-then-place-eq0-clause-bytes c = λ file. zeros_none file c.args.place c.if-place-eq0.true

pub returns-clause-bytes : goal.returns-clause-bytes
unfolding zero_page
returns-clause-bytes c = λ file. c.put_page.ensures.bytes ∙ sym (zeros_for file c.args.place (omega (arith, c.if-place-eq0.false)))
