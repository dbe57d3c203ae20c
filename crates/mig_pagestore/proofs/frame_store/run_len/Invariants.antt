use Rattle.mig_pagestore.proofs.Common.{◌≤◌, ◌-◌, LieInRun}
use Rattle.mig_pagestore.proofs.frame_store.run_len.Given as goal

abbrev pub invariant-loop-count : goal.invariant-loop-count
invariant-loop-count l = record {
  lie : LieInRun l.index.values l.arena.pages l.pfn l.place l.count;
  within : l.count ≤ l.most;
}

abbrev pub decreases-loop-count : goal.decreases-loop-count
decreases-loop-count l = l.most - l.count
