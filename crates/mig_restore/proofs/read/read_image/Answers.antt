use Rattle.mig_restore.proofs.Common.{[], FrameMap, ⊤}
use Rattle.mig_restore.proofs.Compared.{both_compared}
use Rattle.mig_restore.proofs.read.read_image.Goals as goal

pub returns-clause-read : goal.returns-clause-read
returns-clause-read g c = c.reading_of.ensures.read _ _ _ (both_compared {K = Unit {0}} (λ (frames : FrameMap). frames) (λ _ _ _ _. ⊤) tt _ _ _ c.take_image.result (λ i is. ([], tt)) c.take_image.ensures.read c.take_image.ensures.compared)

pub returns-clause-faults : goal.returns-clause-faults
returns-clause-faults g c = c.reading_of.ensures.faults _ _ c.take_image.ensures.faults
