use Rattle.mig_pvtables.proofs.BlankFrames.{frames_start, frames_next, frames_end}
use Rattle.mig_pvtables.proofs.walking.each_table.Goals as goal

pub loop-pfn-init : goal.loop-pfn-init
loop-pfn-init g c = frames_start

pub loop-pfn-preserved : goal.loop-pfn-preserved
loop-pfn-preserved g c = frames_next c.loop-pfn.invariant c.in-Some.ensures.small c.change_frame.ensures c.in-Some.ensures.least

pub returns : goal.returns
returns g c = frames_end c.loop-pfn.invariant c.in_default.ensures.none
