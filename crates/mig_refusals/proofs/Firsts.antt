-- The least of what stands along a list: of a range of numbers what a search finds first, and of the entries of a map the
-- first that has something.
use Rattle.mig_refusals.proofs.Common.{◌≡◌, ℕ, ◌<◌, Bool, Option, Some, Cause, IsTriedBefore, find, range_with_len, option_map, IsTotalOrder, FinMap, IsAntisymmetric, Ordering, Less, number_of_cause, slots, field_numbers, first_some}
use Rattle.std.specs.FinMap as maps
use Rattle.mig_host_laws.proofs.NamedFirst as named
use Rattle.mig_refusals.proofs.Least.{Least}

-- ---- in a range

module _ (p : ℕ → Bool) (place : ℕ → ℕ) (cause : ℕ → Cause) where
  -- each number below n that passes has its cause, at its place
  abbrev pub Sought : ℕ → ℕ → Cause → Type 0
  Sought n = named.Sought number_of_cause p place cause n

  module _ (same : (i j : ℕ) → number_of_cause (cause i) ≡ number_of_cause (cause j)) (rises : (i j : ℕ) → i < j → place i < place j) where
    -- the least place of a list: a search names the least number that passes
    pub sought_least : (n : ℕ) → Least (Sought n) (option_map cause (find p (range_with_len 0 n)))
    sought_least n = named.sought number_of_cause p place cause same rises n

    pub slot_least : Least (Sought 512) (option_map cause (find p slots))
    unfolding slots
    slot_least = sought_least 512

    pub field_least : Least (Sought 19) (option_map cause (find p field_numbers))
    unfolding field_numbers
    field_least = sought_least 19

-- ---- among the entries of a map

module _ {K X : Type 0} {R : K → K → Ordering} (total : IsTotalOrder R) (exact : IsAntisymmetric R) (E : K × X → ℕ → Cause → Type 0) where
  -- what stands in some entry of a map
  abbrev pub InEntries : FinMap R X → ℕ → Cause → Type 0
  InEntries m = named.InEntries number_of_cause total exact E m

  -- what stands in an entry is tried before what stands in one of a greater key
  abbrev pub Rises : FinMap R X → Type 0
  Rises m = (q r : K) (v w : X) → maps.get m q ≡ Some v → maps.get m r ≡ Some w → R q r ≡ Less → (j k : ℕ) (c d : Cause) → E (q, v) j c → E (r, w) k d → IsTriedBefore j c k d

  -- the first entry that has something names the least of what stands in all
  pub entries_least : (m : FinMap R X) → Rises m → (f : K × X → Option Cause) → ((q : K) (v : X) → maps.get m q ≡ Some v → Least (E (q, v)) (f (q, v))) → Least (InEntries m) (first_some f (maps.entries m))
  entries_least m rises f each = named.entries_name number_of_cause total exact E m rises f each
