-- Of several causes that stand in a part, the one that is named.
use Rattle.std.specs.Prelude.{◌≡◌, ◌⊎◌, ℕ, ◌<◌}

-- the number of a cause, and its place where one cause may stand at several
module _ {C : Type 0} (number place : C → ℕ) where
  -- causes are tried in the order of their numbers, and one cause in the order of its places
  abbrev pub IsEarlier : C → C → Type 0
  IsEarlier cause other = (number cause < number other) ⊎ ((number cause ≡ number other) × (place cause < place other))

  -- the cause stands, and every other that stands is tried later
  abbrev pub IsTriedFirst : (C → Type 0) → C → Type 0
  IsTriedFirst Has cause = Has cause × ((other : C) → Has other → IsEarlier cause other ⊎ (other ≡ cause))
