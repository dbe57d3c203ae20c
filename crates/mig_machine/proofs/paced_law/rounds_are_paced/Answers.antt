use Rattle.mig_machine.proofs.Paces.{paced, in_order, counted, fixed}
use Rattle.mig_machine.proofs.paced_law.rounds_are_paced.Goals as goal

pub returns : goal.returns
returns c = record { paced = paced; order = in_order; counted = counted; fixed = fixed }
