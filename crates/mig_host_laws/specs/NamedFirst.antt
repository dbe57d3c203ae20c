-- Of all that is wrong, each at its places, what is named.
use Rattle.std.specs.Prelude.{◌≡◌, ◌⊎◌, ℕ, ◌<◌, Option, Some, None}

module _ {C : Type 0} (number : C → ℕ) where
  -- causes are tried in the order of their numbers, and one cause in the order of its places
  abbrev pub IsNamedBefore : ℕ → C → ℕ → C → Type 0
  IsNamedBefore place cause other_place other = (number cause < number other) ⊎ ((number cause ≡ number other) × (place < other_place))

  -- the cause stands at a place before which nothing else stands
  abbrev pub IsLeast : (ℕ → C → Type 0) → C → Type 0
  IsLeast Has cause = (place : ℕ) × Has place cause × ((other_place : ℕ) (other : C) → Has other_place other → IsNamedBefore place cause other_place other ⊎ (other ≡ cause))

  -- nothing stands, or the first of what stands is named
  abbrev pub NamesOne : (ℕ → C → Type 0) → Option C → Type 0
  NamesOne Has None = (place : ℕ) (cause : C) → Has place cause → ⊥
  NamesOne Has (Some cause) = IsLeast Has cause

  -- what is found is what is named; a record, so that proofs needn't look inside
  pub record NamesFirst (Has : ℕ → C → Type 0) (found : Option C) : Type 0 where
    pub holds : NamesOne Has found
