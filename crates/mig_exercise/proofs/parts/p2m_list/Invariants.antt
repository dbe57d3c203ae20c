use Rattle.mig_exercise.proofs.Common.{◌≡◌, ◌+◌, longs}
use Rattle.mig_exercise.proofs.parts.p2m_list.Given as goal

abbrev pub invariant-loop-k : goal.invariant-loop-k
invariant-loop-k l = l.list.items ≡ longs l.k (λ k. 6 + k)
