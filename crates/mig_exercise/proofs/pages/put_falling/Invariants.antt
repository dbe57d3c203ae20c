use Rattle.mig_exercise.proofs.Common.{◌≡◌, ℕ, longs}
use Rattle.mig_exercise.proofs.LongPages.{falling}
use Rattle.mig_exercise.proofs.pages.put_falling.Given as goal

abbrev pub invariant-loop-slot : goal.invariant-loop-slot
invariant-loop-slot l = (f : ℕ → ℕ) → l.fn.page ≡ longs 512 f → l.page ≡ longs 512 (falling l.first l.step f l.slot)
