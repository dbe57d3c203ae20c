use Rattle.mig_legacy.proofs.Laws.{never_both}
use Rattle.mig_legacy.proofs.law.never_both.Goals as goal

pub returns : goal.returns
returns c = never_both
