use Rattle.mig_pagestore_index.proofs.Common.{◌<◌, ◌≤◌}
use Rattle.mig_pagestore_index.proofs.directory.roundest.Given as goal

abbrev pub invariant-loop-round : goal.invariant-loop-round
invariant-loop-round l = record { above : l.low < l.round; upto : l.round ≤ l.high }

abbrev pub decreases-loop-round : goal.decreases-loop-round
decreases-loop-round l = l.round
