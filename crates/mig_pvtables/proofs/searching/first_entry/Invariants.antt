use Rattle.mig_pvtables.proofs.Common.{length, entries_from}
use Rattle.mig_pvtables.proofs.Walks.{IsSoFrom}
use Rattle.std.specs.FinMap as maps
use Rattle.mig_pvtables.proofs.searching.first_entry.Given as goal

abbrev pub invariant-loop-pfn : goal.invariant-loop-pfn
invariant-loop-pfn g l = IsSoFrom (g.T.EntryTest.passing l.test) l.fn.frames.frames l.from

abbrev pub decreases-loop-pfn : goal.decreases-loop-pfn
decreases-loop-pfn g l = length (entries_from l.from (maps.entries l.fn.frames.frames))
