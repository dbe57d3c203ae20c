use Rattle.mig_pagestore_index.proofs.Common.{◌≡◌, ℕ, ◌<◌, ◌≤◌, slice_index}
use Rattle.mig_pagestore_index.proofs.directory.next_near.Given as goal

abbrev pub invariant-loop-key : goal.invariant-loop-key
invariant-loop-key l = (k : ℕ) → l.from ≤ k → k < l.key → slice_index l.near k ≡ 0
