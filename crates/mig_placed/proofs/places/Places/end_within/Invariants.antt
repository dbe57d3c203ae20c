use Rattle.mig_placed.proofs.Common.{◌≡◌, ◌≤◌, ◌<◌, ◌-◌, ◌^◌, ℕ, Some, cell_mark, EndsWithin}
use Rattle.std.specs.FinMap as maps
use Rattle.mig_placed.proofs.places.Places.end_within.Given as goal

abbrev pub invariant-loop-pfn : goal.invariant-loop-pfn
invariant-loop-pfn l = record {
  small : l.from ≤ 2 ^ 52;
  below : (k c : ℕ) → k < l.from → maps.get l.self k ≡ Some c → EndsWithin l.size (cell_mark c);
}

abbrev pub decreases-loop-pfn : goal.decreases-loop-pfn
decreases-loop-pfn l = 2 ^ 52 - l.from
