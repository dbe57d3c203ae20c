use Rattle.mig_pagestore_index.proofs.Common.{◌≡◌, ℕ, ◌-◌, ◌<◌, ◌≤◌, ◌^◌, found}
use Rattle.mig_pagestore_index.proofs.tree.Tree.next.Given as goal

abbrev pub invariant-loop-key : goal.invariant-loop-key
invariant-loop-key l = record {
  range : l.from ≤ l.at;
  none : (k : ℕ) → l.from ≤ k → k < l.at → found l.self k ≡ 0;
}

abbrev pub decreases-loop-key : goal.decreases-loop-key
decreases-loop-key l = 2 ^ 53 - l.at
