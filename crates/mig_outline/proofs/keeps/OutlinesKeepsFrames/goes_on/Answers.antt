use Rattle.mig_outline.proofs.Changed.{changed_empty}
use Rattle.mig_outline.proofs.Outline.{entry_on, outline_len}
use Rattle.mig_outline.proofs.Common.{outline_frame, nat_cmp_total, nat_cmp-IsAntisymmetric}
use Rattle.mig_outline.proofs.keeps.OutlinesKeepsFrames.goes_on.Goals as goal

pub returns-clause-entry : goal.returns-clause-entry
returns-clause-entry g c = entry_on

pub returns-clause-none : goal.returns-clause-none
returns-clause-none g c = changed_empty nat_cmp_total nat_cmp-IsAntisymmetric outline_frame

pub returns-clause-count : goal.returns-clause-count
returns-clause-count g c = outline_len
