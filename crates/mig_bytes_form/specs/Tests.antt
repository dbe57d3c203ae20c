-- Conditions with two readings: what they say, and the test of it; and tables of them, a row for each cause.
use Rattle.std.specs.List.{list_all}
use Rattle.std.specs.Prelude.{◌≡◌, ◌⊎◌, ℕ, ◌<◌, ◌≤◌, Bool, true, List, [], ◌∷◌, Option, Some, None, ◌==◌, ◌&&◌, ◌||◌, not, nat_le, nat_lt, if◌then◌else◌}

pub data Test : Type 0 where
  Less : ℕ → ℕ → Test
  AtMost : ℕ → ℕ → Test
  Equal : ℕ → ℕ → Test
  Is : Bool → Test
  Not : Test → Test
  Both : Test → Test → Test
  Either : Test → Test → Test

-- what it says
abbrev pub Holding : Test → Type 0
Holding (Less a b) = a < b
Holding (AtMost a b) = a ≤ b
Holding (Equal a b) = a ≡ b
Holding (Is b) = b ≡ true
Holding (Not t) = Holding t → ⊥
Holding (Both s t) = Holding s × Holding t
Holding (Either s t) = Holding s ⊎ Holding t

-- whether it passes
abbrev pub is_passed : Test → Bool
is_passed (Less a b) = nat_lt a b
is_passed (AtMost a b) = nat_le a b
is_passed (Equal a b) = a == b
is_passed (Is b) = b
is_passed (Not t) = not (is_passed t)
is_passed (Both s t) = is_passed s && is_passed t
is_passed (Either s t) = is_passed s || is_passed t

-- ---- rows

abbrev pub first_named : {C : Type 0} → List (Test × C) → Option C
first_named [] = None
first_named (row ∷ rows) = if is_passed row.0 then Some row.1 else first_named rows

-- no row says something that holds
abbrev pub NoneHolds : {C : Type 0} → List (Test × C) → Type 0
NoneHolds [] = Unit {0}
NoneHolds (row ∷ rows) = (Holding row.0 → ⊥) × NoneHolds rows

-- the first row that holds names this cause
pub data NamedIn {C : Type 0} : List (Test × C) → C → Type 0 where
  this : (t : Test) (c : C) (rows : List (Test × C)) → Holding t → NamedIn ((t, c) ∷ rows) c
  later : (t : Test) (c d : C) (rows : List (Test × C)) → (Holding t → ⊥) → NamedIn rows d → NamedIn ((t, c) ∷ rows) d

-- a cause that is computed, as the one row that holds
abbrev pub computed : {C : Type 0} → Option C → List (Test × C)
computed None = []
computed (Some c) = (Is true, c) ∷ []

-- the same rows, their causes told in another way
abbrev pub retold_rows : {C D : Type 0} → (C → D) → List (Test × C) → List (Test × D)
retold_rows turn [] = []
retold_rows turn (row ∷ rows) = (row.0, turn row.1) ∷ retold_rows turn rows

-- ---- in the order of numbers

-- some row that holds has this cause
pub data HasIn {C : Type 0} : List (Test × C) → C → Type 0 where
  here : (t : Test) (c : C) (rows : List (Test × C)) → Holding t → HasIn ((t, c) ∷ rows) c
  there : (row : Test × C) (c : C) (rows : List (Test × C)) → HasIn rows c → HasIn (row ∷ rows) c

-- the number of each row's cause is below those of the rows behind it
abbrev pub is_ascending : {C : Type 0} → (C → ℕ) → List (Test × C) → Bool
is_ascending number [] = true
is_ascending number (row ∷ rows) = list_all (λ other. nat_lt (number row.1) (number other.1)) rows && is_ascending number rows
