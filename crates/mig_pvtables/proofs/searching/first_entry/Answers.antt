use Rattle.mig_pvtables.proofs.Walks.{frames_start}
use Rattle.mig_pvtables.proofs.searching.first_entry.Goals as goal

pub loop-pfn-init : goal.loop-pfn-init
loop-pfn-init g c = frames_start (g.T.EntryTest.passing c.args.test.now) c.args.frames.now.frames
