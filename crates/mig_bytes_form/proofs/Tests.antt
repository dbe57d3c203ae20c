-- What a test gives is what its condition says; and so for a table of them.
use Rattle.std.proofs.Common.{ℕ, ◌≡◌, ◌⊎◌, inl, inr, ◌<◌, ◌≤◌, Bool, true, false, cond, not, nat_eq, nat_le, nat_lt, ◌&&◌, ◌||◌, List, [], ◌∷◌, ◌++◌, Option, Some, None, refl, sym, ap, subst, arith, ltb-true, ltb-false, eqb-true, leb-true}
use Rattle.std.proofs.lemmas.Bool.{and_parts, eqb-false, leb-false, false≢true}
use Rattle.std.proofs.lemmas.Option.{none-some}
use Rattle.std.specs.Option.{option_map, option_or}
use Rattle.mig_bytes_form.specs.Tests.{Test, Holding, is_passed, first_named, NoneHolds, NamedIn, HasIn, is_ascending, computed, retold_rows}
use Rattle.mig_bytes_form.specs.Tests.Test.{Less, AtMost, Equal, Is, Not, Both, Either}
use Rattle.mig_bytes_form.specs.Tests.NamedIn.{this, later}
use Rattle.mig_bytes_form.specs.Tests.HasIn.{here, there}
use Rattle.std.specs.List.{AllByRecursion, list_all}

-- a truth value tells whether A
abbrev Told : Type 0 → Bool → Type 0
Told A true = A
Told A false = A → ⊥

module _ (A B : Type 0) where
  not_told : (b : Bool) → Told A b → Told (A → ⊥) (not b)
  not_told true a = λ none. none a
  not_told false none = none

  both_told : (b c : Bool) → Told A b → Told B c → Told (A × B) (b && c)
  both_told true true a b = (a, b)
  both_told true false a none = λ both. none both.1
  both_told false c none b = λ both. none both.0

  either_told : (b c : Bool) → Told A b → Told B c → Told (A ⊎ B) (b || c)
  either_told true c a b = inl a
  either_told false true none b = inr b
  either_told false false never none = λ either. elim either [ inl a ↦ never a | inr b ↦ none b ]

is_told : (t : Test) → Told (Holding t) (is_passed t)
is_told (Less a b) = by (nat_lt a b) refl
  where
    by : (c : Bool) → nat_lt a b ≡ c → Told (a < b) c
    by true is = ltb-true a b is
    by false is = λ less. let least = ltb-false a b is in omega (arith, less, least)
is_told (AtMost a b) = by (nat_le a b) refl
  where
    by : (c : Bool) → nat_le a b ≡ c → Told (a ≤ b) c
    by true is = leb-true a b is
    by false is = λ least. let less = leb-false a b is in omega (arith, less, least)
is_told (Equal a b) = by (nat_eq a b) refl
  where
    by : (c : Bool) → nat_eq a b ≡ c → Told (a ≡ b) c
    by true is = eqb-true a b is
    by false is = eqb-false a b is
is_told (Is true) = refl
is_told (Is false) = false≢true
is_told (Not t) = not_told (Holding t) (Holding t) (is_passed t) (is_told t)
is_told (Both s t) = both_told (Holding s) (Holding t) (is_passed s) (is_passed t) (is_told s) (is_told t)
is_told (Either s t) = either_told (Holding s) (Holding t) (is_passed s) (is_passed t) (is_told s) (is_told t)

-- ---- rows

module _ {C : Type 0} where
  -- what the table names is told
  abbrev RowsTold : List (Test × C) → Option C → Type 0
  RowsTold rows None = NoneHolds rows
  RowsTold rows (Some c) = NamedIn rows c

  rows_told : (rows : List (Test × C)) → RowsTold rows (first_named rows)
  rows_told [] = tt
  rows_told (row ∷ rows) = by (is_passed row.0) (is_told row.0) (first_named rows) (rows_told rows)
    where
      by : (b : Bool) → Told (Holding row.0) b → (o : Option C) → RowsTold rows o → RowsTold (row ∷ rows) (cond b (Some row.1) o)
      by true holds o others = this row.0 row.1 rows holds
      by false never None others = (never, others)
      by false never (Some c) others = later row.0 row.1 c rows never others

  one_named : (rows : List (Test × C)) (c d : C) → NamedIn rows c → NamedIn rows d → c ≡ d
  one_named _ _ _ (this t c rows holds) (this _ _ _ other) = refl
  one_named _ _ _ (this t c rows holds) (later _ _ d _ never other) = absurd (never holds)
  one_named _ _ _ (later t c d rows never named) (this _ _ _ holds) = absurd (never holds)
  one_named _ _ _ (later t c d rows never named) (later _ _ e _ _ other) = one_named rows d e named other

  pub none_named : (rows : List (Test × C)) (c : C) → NoneHolds rows → NamedIn rows c → ⊥
  none_named _ _ none (this t c rows holds) = none.0 holds
  none_named _ _ none (later t c d rows never named) = none_named rows d none.1 named

  pub is_none : (rows : List (Test × C)) → first_named rows ≡ None → NoneHolds rows
  is_none rows is = subst (RowsTold rows) is (rows_told rows)

  pub is_named : (rows : List (Test × C)) (c : C) → first_named rows ≡ Some c → NamedIn rows c
  is_named rows c is = subst (RowsTold rows) is (rows_told rows)

  pub none_is : (rows : List (Test × C)) → NoneHolds rows → first_named rows ≡ None
  none_is rows none = by (first_named rows) (rows_told rows)
    where
      by : (o : Option C) → RowsTold rows o → o ≡ None
      by None told = refl
      by (Some c) told = absurd (none_named rows c none told)

  pub named_is : (rows : List (Test × C)) (c : C) → NamedIn rows c → first_named rows ≡ Some c
  named_is rows c named = by (first_named rows) (rows_told rows)
    where
      by : (o : Option C) → RowsTold rows o → o ≡ Some c
      by None told = absurd (none_named rows c told named)
      by (Some d) told = ap Some (one_named rows d c told named)

-- ---- by the tests

-- where no cause is named no test passes
pub rows_fine : {C : Type 0} (rows : List (Test × C)) → first_named rows ≡ None → AllByRecursion (λ row. is_passed row.0 ≡ false) rows
rows_fine [] h = tt
rows_fine {C} (row ∷ rows) h = by (is_passed row.0) refl h (rows_fine rows)
  where
    by : (b : Bool) → is_passed row.0 ≡ b → cond b (Some row.1) (first_named rows) ≡ None → (first_named rows ≡ None → AllByRecursion (λ row. is_passed row.0 ≡ false) rows) → (is_passed row.0 ≡ false) × AllByRecursion (λ row. is_passed row.0 ≡ false) rows
    by true is named others = absurd (none-some row.1 (sym named))
    by false is none others = (is, others none)

pub no_fault : {C : Type 0} (rows : List (Test × C)) → AllByRecursion (λ row. is_passed row.0 ≡ false) rows → first_named rows ≡ None
no_fault [] h = refl
no_fault (row ∷ rows) h = rw h.0 (no_fault rows h.1)

-- in a table in the order of numbers the cause that is named has the least number of those that stand
module _ {C : Type 0} (number : C → ℕ) where
  below : (n : ℕ) (rows : List (Test × C)) (d : C) → list_all (λ row. nat_lt n (number row.1)) rows ≡ true → HasIn rows d → n < number d
  below n _ d all (here t c rows holds) = ltb-true n (number c) (and_parts _ _ all).0
  below n _ d all (there row c rows has) = below n rows c (and_parts _ _ all).1 has

  pub least_named : (rows : List (Test × C)) (c d : C) → is_ascending number rows ≡ true → NamedIn rows c → HasIn rows d → number c ≤ number d
  least_named _ _ _ asc (this t c rows holds) (here _ _ _ other) = omega arith
  least_named _ _ _ asc (this t c rows holds) (there _ d _ has) = let less = below (number c) rows d (and_parts _ _ asc).0 has in omega (arith, less)
  least_named _ _ _ asc (later t c d rows never named) (here _ _ _ holds) = absurd (never holds)
  least_named _ _ _ asc (later t c d rows never named) (there _ e _ has) = least_named rows d e (and_parts _ _ asc).1 named has

-- rows told in another way
module _ {C D : Type 0} (turn : C → D) where
  pub retold_is : (rows : List (Test × C)) → first_named (retold_rows turn rows) ≡ option_map turn (first_named rows)
  retold_is [] = refl
  retold_is (row ∷ rows) = by (is_passed row.0) (retold_is rows)
    where
      by : (b : Bool) → first_named (retold_rows turn rows) ≡ option_map turn (first_named rows) → cond b (Some (turn row.1)) (first_named (retold_rows turn rows)) ≡ option_map turn (cond b (Some row.1) (first_named rows))
      by true same = refl
      by false same = same

-- a table, and another behind it
pub append_named : {C : Type 0} (rows others : List (Test × C)) → first_named (rows ++ others) ≡ option_or (first_named rows) (first_named others)
append_named [] others = refl
append_named (row ∷ rows) others = by (is_passed row.0) (append_named rows others)
  where
    by : (b : Bool) → first_named (rows ++ others) ≡ option_or (first_named rows) (first_named others) → cond b (Some row.1) (first_named (rows ++ others)) ≡ option_or (cond b (Some row.1) (first_named rows)) (first_named others)
    by true same = refl
    by false same = same

-- a computed cause
pub computed_is : {C : Type 0} (o : Option C) → first_named (computed o) ≡ o
computed_is None = refl
computed_is (Some c) = refl
