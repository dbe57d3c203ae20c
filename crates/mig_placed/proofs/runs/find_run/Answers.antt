use Rattle.mig_placed.proofs.Common.{sym, ap, ◌∙◌, drop, frames_after}
use Rattle.mig_placed.proofs.Seen.{none_from_placed}
use Rattle.mig_placed.proofs.runs.find_run.Goals as goal

pub returns-in_default-clause-some : goal.returns-in_default-clause-some
returns-in_default-clause-some c = λ none some file.
    let cells = c.args.places.now in
    sym (c.loop-run.invariant.run.behind file ∙ ap (λ n. drop n (frames_after file cells c.args.from)) none)
    ∙ none_from_placed file cells c.loop-run.run.behind c.in_default.ensures.none
