use Rattle.mig_restore.proofs.Common.{Some}
use Rattle.mig_outline.proofs.Faults.{found_in_outline, outline_fine}
use Rattle.mig_outline.proofs.keeps.OutlinesKeepsFrames.fault_at_end.Goals as goal

pub returns-clause-ok : goal.returns-clause-ok
returns-clause-ok g c = outline_fine c.whole_by.result c.args.guest.now c.frame_store.result.now.frames c.frame_store.ensures c.whole_by.ensures.ok

pub returns-clause-fault : goal.returns-clause-fault
returns-clause-fault g c = λ guest cause is err. found_in_outline c.args.guest.now guest c.frame_store.result.now.frames (Some cause) c.frame_store.ensures is (c.whole_by.ensures.fault cause err)
