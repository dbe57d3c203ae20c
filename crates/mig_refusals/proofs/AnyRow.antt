-- A row of a table that holds, by its place.
use Rattle.mig_refusals.proofs.Common.{◌≡◌, ◌⊎◌, inl, inr, List, [], ◌∷◌, refl, subst}
use Rattle.mig_bytes_form.specs.Tests.{HasIn, Holding, Test}
use Rattle.mig_bytes_form.specs.Tests.HasIn.{here, there}

-- one of the rows holds, and has this cause
abbrev pub AnyRow : {C : Type 0} → List (Test × C) → C → Type 0
AnyRow [] c = ⊥
AnyRow (row ∷ rows) c = (Holding row.0 × (row.1 ≡ c)) ⊎ AnyRow rows c

pub any_row : {C : Type 0} (rows : List (Test × C)) (c : C) → HasIn rows c → AnyRow rows c
any_row _ _ (here t c rows holds) = inl (holds, refl)
any_row _ _ (there row c rows has) = inr (any_row rows c has)

pub row_any : {C : Type 0} (rows : List (Test × C)) (c : C) → AnyRow rows c → HasIn rows c
row_any [] c any = absurd any
row_any (row ∷ rows) c (inl is) = subst (λ d. HasIn (row ∷ rows) d) is.1 (here row.0 row.1 rows is.0)
row_any (row ∷ rows) c (inr any) = there row c rows (row_any rows c any)
