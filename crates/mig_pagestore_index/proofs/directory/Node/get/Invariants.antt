use Rattle.mig_pagestore_index.proofs.Common.{◌≡◌, leaf_at}
use Rattle.mig_pagestore_index.proofs.directory.Node.get.Given as goal

abbrev pub invariant-loop-at : goal.invariant-loop-at
invariant-loop-at l = leaf_at l.at l.key ≡ leaf_at l.self l.key
