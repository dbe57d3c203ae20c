use Rattle.mig_legacy.proofs.Laws.{accepted_or_refused}
use Rattle.mig_legacy.proofs.law.accepted_or_refused.Goals as goal

pub returns : goal.returns
returns c = accepted_or_refused
