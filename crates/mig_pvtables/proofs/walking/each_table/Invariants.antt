use Rattle.mig_pvtables.proofs.Common.{◌-◌, pfn_limit, with_table_changed}
use Rattle.mig_pvtables.proofs.BlankFrames.{FramesChangedBelow}
use Rattle.mig_pvtables.proofs.walking.each_table.Given as goal

abbrev pub invariant-loop-pfn : goal.invariant-loop-pfn
invariant-loop-pfn g l = FramesChangedBelow (with_table_changed (g.S.TableStep.tables l.step)) l.fn.guest l.from l.guest

abbrev pub decreases-loop-pfn : goal.decreases-loop-pfn
decreases-loop-pfn g l = pfn_limit - l.from
