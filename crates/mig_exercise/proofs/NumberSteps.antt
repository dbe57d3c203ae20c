-- How the numbers of the exercise go on.
use Rattle.mig_exercise.proofs.Common.{◌≡◌, ℕ, suc, ◌+◌, ap, ◌∙◌, arith, next_number}
use Rattle.mig_exercise.specs.Numbers.{number}

-- the number in front of number i is one step behind the one before it
pub stepped : (seed i x y : ℕ) → next_number x ≡ number seed i → y ≡ next_number x → next_number y ≡ number seed (i + 1)
unfolding number
stepped seed i x y is step = ap next_number (step ∙ is) ∙ ap (number seed) (let e : suc i ≡ i + 1 = omega arith in e)
