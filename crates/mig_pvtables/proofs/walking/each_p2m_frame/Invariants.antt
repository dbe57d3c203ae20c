use Rattle.mig_pvtables.proofs.BlankLists.{WrittenFrom}
use Rattle.mig_pvtables.proofs.walking.each_p2m_frame.Given as goal

abbrev pub invariant-loop-index : goal.invariant-loop-index
invariant-loop-index g l = WrittenFrom (g.S.P2mStep.pages l.step) l.fn.guest l.index l.guest

abbrev pub decreases-loop-index : goal.decreases-loop-index
decreases-loop-index g l = l.index
