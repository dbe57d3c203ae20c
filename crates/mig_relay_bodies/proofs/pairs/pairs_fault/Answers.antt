use Rattle.mig_relay_bodies.proofs.Common.{ap, ◌∙◌, fault_in_pairs}
use Rattle.mig_relay_bodies.proofs.PairPieces.{pairs_are}
use Rattle.mig_relay_bodies.proofs.pairs.pairs_fault.Goals as goal

pub returns : goal.returns
returns c = λ bytes is. c.first_fault.ensures ∙ ap fault_in_pairs is ∙ pairs_are bytes
