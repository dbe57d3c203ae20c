use Rattle.mig_pagestore_index.proofs.Common.{◌≡◌, ℕ, ◌<◌, ◌≤◌, step}
use Rattle.mig_pagestore_index.proofs.level.Level.next.Given as goal

abbrev pub invariant-loop-place : goal.invariant-loop-place
invariant-loop-place l = (j : ℕ) → l.from ≤ j → j < l.place → step l.self.cells.items l.node j ≡ 0
