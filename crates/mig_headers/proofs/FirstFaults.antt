-- Tables of faults of which no row's test holds.
use Rattle.std.proofs.Common.{◌≡◌, List, [], ◌∷◌, Bool, true, false, Option, Some, None, refl}
use Rattle.mig_headers.proofs.Common.{AllByRecursion, option_or, first_fault}

some_none : {C : Type 0} {c : C} → Some c ≡ None → ⊥
some_none e = cc

pub rows_fine : {C : Type 0} (rows : List (Bool × C)) → first_fault rows ≡ None → AllByRecursion (λ row. row.0 ≡ false) rows
rows_fine [] h = tt
rows_fine {C} ((true, c) ∷ rows) h = let no : ◌≡◌ {A = Option C} (Some c) None = h in absurd (some_none no)
rows_fine ((false, c) ∷ rows) h = (refl, rows_fine rows h)

pub no_fault : {C : Type 0} (rows : List (Bool × C)) → AllByRecursion (λ row. row.0 ≡ false) rows → first_fault rows ≡ None
no_fault [] h = refl
no_fault (row ∷ rows) h = rw h.0 (no_fault rows h.1)

pub both_none : {C : Type 0} (o p : Option C) → option_or o p ≡ None → (o ≡ None) × (p ≡ None)
both_none None p h = (refl, h)
both_none {C} (Some c) p h = let no : ◌≡◌ {A = Option C} (Some c) None = h in absurd (some_none no)

pub neither_some : {C : Type 0} (o p : Option C) → o ≡ None → p ≡ None → option_or o p ≡ None
neither_some o p e f = rw (e, f) refl
