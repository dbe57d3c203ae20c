use Rattle.mig_exercise.proofs.Common.{◌≡◌, ℕ, List, host_begun}
use Rattle.mig_exercise.proofs.host.add_first.Given as goal

abbrev pub invariant-loop-pfn : goal.invariant-loop-pfn
invariant-loop-pfn l = (contents : ℕ → List ℕ) → l.host.host ≡ host_begun l.frames contents l.pfn
