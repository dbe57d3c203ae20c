use Rattle.mig_legacy.proofs.Laws.{legacy_is_accepted}
use Rattle.mig_legacy.proofs.law.legacy_is_accepted.Goals as goal

pub returns : goal.returns
returns c = legacy_is_accepted
