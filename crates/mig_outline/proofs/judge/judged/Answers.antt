use Rattle.mig_restore.proofs.Common.{subst, AgreesWithJudging, IsTaken}
use Rattle.mig_bytes.proofs.Joins.{weakened}
use Rattle.mig_outline.specs.Judges.{IsTally}
use Rattle.mig_outline.proofs.Common.{outline_frames}
use Rattle.mig_outline.proofs.judge.judged.Goals as goal

pub returns-in-Ok-clause-read : goal.returns-in-Ok-clause-read
returns-in-Ok-clause-read c = λ before after judging given.
    weakened (IsTaken outline_frames) IsTally before after judging c.in-Ok.image _ c.tally_of.ensures (subst (λ r. AgreesWithJudging (IsTaken outline_frames) before after judging r) c.in-Ok.is given)
