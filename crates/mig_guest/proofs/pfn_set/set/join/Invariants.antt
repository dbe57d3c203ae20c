use Rattle.mig_guest.proofs.Common.{◌≡◌, ℕ, ◌<◌, ◌≤◌, get_or, bit_or}
use Rattle.mig_guest.proofs.pfn_set.set.join.Given as goal

abbrev pub invariant-loop-index : goal.invariant-loop-index
invariant-loop-index l = record {
  done : (k : ℕ) → k < l.index → get_or l.words k 0 ≡ bit_or (get_or l.fn.words k 0) (get_or l.other k 0);
  rest : (k : ℕ) → l.index ≤ k → get_or l.words k 0 ≡ get_or l.fn.words k 0;
}
