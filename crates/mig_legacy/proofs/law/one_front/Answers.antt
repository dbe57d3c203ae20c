use Rattle.mig_legacy.proofs.Laws.{one_front}
use Rattle.mig_legacy.proofs.law.one_front.Goals as goal

pub returns : goal.returns
returns c = one_front
