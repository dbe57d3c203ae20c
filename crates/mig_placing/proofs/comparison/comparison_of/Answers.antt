use Rattle.mig_restore.proofs.Common.{subst, AgreesWithJudging, IsTakenAndCompared}
use Rattle.mig_placing.proofs.Common.{weakened, outline_frames}
use Rattle.mig_placing.specs.Compared.{IsComparison}
use Rattle.mig_placing.proofs.comparison.comparison_of.Goals as goal

pub returns-in-Ok-clause-read : goal.returns-in-Ok-clause-read
returns-in-Ok-clause-read c = λ before after judging given.
    weakened (IsTakenAndCompared outline_frames) IsComparison before after judging c.in-Ok.image _ (λ image taken. record { tally = c.tally_of.ensures image taken.is; differs = taken.differs })
    (subst (λ r. AgreesWithJudging (IsTakenAndCompared outline_frames) before after judging r) c.in-Ok.is given)
