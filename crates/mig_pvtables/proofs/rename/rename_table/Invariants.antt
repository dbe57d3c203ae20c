use Rattle.mig_pvtables.proofs.LongSteps.{ChangedBelow}
use Rattle.mig_pvtables.proofs.Renamed.{renamed_long}
use Rattle.mig_pvtables.proofs.rename.rename_table.Given as goal

abbrev pub invariant-loop-slot : goal.invariant-loop-slot
invariant-loop-slot g l = ChangedBelow 512 (renamed_long (g.N.FrameNames.names l.names) l.level) l.fn.page l.slot l.page
