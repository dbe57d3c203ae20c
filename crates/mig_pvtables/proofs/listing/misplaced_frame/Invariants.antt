use Rattle.mig_pvtables.proofs.Common.{◌-◌, p2m_key, count_in, type_at}
use Rattle.mig_pvtables.proofs.P2mWalks.{AreMarked, IsFineTo, marks_in}
use Rattle.std.specs.FinMap as maps
use Rattle.mig_pvtables.proofs.listing.misplaced_frame.Given as goal

abbrev pub invariant-loop-pfn : goal.invariant-loop-pfn
invariant-loop-pfn g l = record {
  are : AreMarked (type_at (g.T.TypedFrames.frames l.fn.frames)) (maps.get l.fn.parts p2m_key) l.index (marks_in l.marks.values);
  fine : IsFineTo (type_at (g.T.TypedFrames.frames l.fn.frames)) (maps.get l.fn.parts p2m_key) l.index;
}

abbrev pub decreases-loop-pfn : goal.decreases-loop-pfn
decreases-loop-pfn g l = count_in (maps.get l.fn.parts p2m_key) - l.index
