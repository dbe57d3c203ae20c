use Rattle.mig_relay.proofs.Steps.{is_front}
use Rattle.mig_relay.proofs.law.lists_are_fronts.Goals as goal

pub returns : goal.returns
returns c = λ r bytes s. is_front s
