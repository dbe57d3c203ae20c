use Rattle.mig_pvtables.proofs.Common.{◌-◌, p2m_key, count_in}
use Rattle.mig_blanked.proofs.Marks.{MarkedTo}
use Rattle.std.specs.FinMap as maps
use Rattle.mig_blanked.proofs.listed.mark_listed.Given as goal

abbrev pub invariant-loop-pfn : goal.invariant-loop-pfn
invariant-loop-pfn l = MarkedTo l.fn.frames.frames l.fn.parts l.index l.marks.values

abbrev pub decreases-loop-pfn : goal.decreases-loop-pfn
decreases-loop-pfn l = count_in (maps.get l.fn.parts p2m_key) - l.index
