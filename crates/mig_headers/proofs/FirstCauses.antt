-- Tables of causes: the first row whose test holds is the cause that is named.
use Rattle.std.proofs.Common.{◌≡◌, ◌⊎◌, inl, inr, ℕ, List, [], ◌∷◌, ◌++◌, Bool, true, false, nat_lt, nat_eq, Option, Some, None, refl, sym, ap, subst, arith, ltb-true, eqb-true}
use Rattle.std.specs.Prelude.{◌&&◌, ◌||◌}
use Rattle.mig_headers.proofs.Common.{list_all, option_or, first_fault}
use Rattle.std.proofs.lemmas.Bool.{and_parts, or_cases, false≢true}
use Rattle.mig_headers.specs.FirstCauses.{IsEarlier, IsTriedFirst}

-- a computed cause is the one that is named
pub record Names {C : Type 0} (Named : List ℕ → C → Type 0) (fault : List ℕ → Option C) : Type 0 where
  pub computed : (bytes : List ℕ) (c : C) → fault bytes ≡ Some c → Named bytes c
  pub named : (bytes : List ℕ) (c : C) → Named bytes c → fault bytes ≡ Some c

module _ {C : Type 0} (number place : C → ℕ) where
  abbrev NamedOf : (C → Type 0) → Option C → Type 0
  NamedOf Has None = (c : C) → Has c → ⊥
  NamedOf Has (Some c) = IsTriedFirst number place Has c

  -- what a computed fault is of the causes that stand
  pub record Named (Has : C → Type 0) (f : Option C) : Type 0 where
    pub holds : NamedOf Has f

  -- ---- rows

  abbrev is_earlier : C → C → Bool
  is_earlier c d = nat_lt (number c) (number d) || (nat_eq (number c) (number d) && nat_lt (place c) (place d))

  earlier : (c d : C) → is_earlier c d ≡ true → IsEarlier number place c d
  earlier c d h = elim (or_cases _ _ h) [ inl less ↦ inl (ltb-true _ _ less) | inr same ↦ let e = and_parts _ _ same in inr (eqb-true _ _ e.0, ltb-true _ _ e.1) ]

  -- each row's cause is tried before those of the rows behind it
  abbrev pub ascends : List (Bool × C) → Bool
  ascends [] = true
  ascends (row ∷ rows) = list_all (λ other. is_earlier row.1 other.1) rows && ascends rows

  abbrev pub RowHas : List (Bool × C) → C → Type 0
  RowHas [] c = ⊥
  RowHas (row ∷ rows) c = ((row.0 ≡ true) × (c ≡ row.1)) ⊎ RowHas rows c

  abbrev pub To : (C → Type 0) → List (Bool × C) → Type 0
  To Has [] = Unit {0}
  To Has (row ∷ rows) = (row.0 ≡ true → Has row.1) × To Has rows

  later : (c : C) (rows : List (Bool × C)) → list_all (λ other. is_earlier c other.1) rows ≡ true → (d : C) → RowHas rows d → IsEarlier number place c d
  later c [] all d h = absurd h
  later c (row ∷ rows) all d (inl (_, is)) = subst (IsEarlier number place c) (sym is) (earlier c row.1 (and_parts _ _ all).0)
  later c (row ∷ rows) all d (inr h) = later c rows (and_parts _ _ all).1 d h

  rows_named : (rows : List (Bool × C)) → ascends rows ≡ true → Named (RowHas rows) (first_fault rows)
  rows_named [] asc = record { holds = λ c h. h }
  rows_named ((true, x) ∷ rows) asc = record { holds = (inl (refl, refl), λ d h. elim h [ inl e ↦ inr e.1 | inr e ↦ inl (later x rows (and_parts _ _ asc).0 d e) ]) }
  rows_named ((false, x) ∷ rows) asc = skip (first_fault rows) (rows_named rows (and_parts _ _ asc).1)
    where
      skip : (g : Option C) → Named (RowHas rows) g → Named (RowHas ((false, x) ∷ rows)) g
      skip None p = record { holds = λ c h. elim h [ inl q ↦ false≢true q.0 | inr q ↦ p.holds c q ] }
      skip (Some c) p = record { holds = (inr p.holds.0, λ d h. elim h [ inl q ↦ absurd (false≢true q.0) | inr q ↦ p.holds.1 d q ]) }

  turned : (P R : C → Type 0) (f : Option C) → Named P f → ((c : C) → P c → R c) → ((c : C) → R c → P c) → Named R f
  turned P R None p to from = record { holds = λ c r. p.holds c (from c r) }
  turned P R (Some c) p to from = record { holds = (to c p.holds.0, λ d r. p.holds.1 d (from d r)) }

  into : (Has : C → Type 0) (rows : List (Bool × C)) → To Has rows → (c : C) → RowHas rows c → Has c
  into Has [] to c h = absurd h
  into Has (row ∷ rows) to c (inl h) = subst Has (sym h.1) (to.0 h.0)
  into Has (row ∷ rows) to c (inr h) = into Has rows to.1 c h

  -- rows in the order of their causes: the first whose test holds is named
  pub rows_name : (Has : C → Type 0) (rows : List (Bool × C)) → ascends rows ≡ true → To Has rows → ((c : C) → Has c → RowHas rows c) → Named Has (first_fault rows)
  rows_name Has rows asc to from = turned (RowHas rows) Has (first_fault rows) (rows_named rows asc) (into Has rows to) from

  -- ---- what is named is what is computed

  never_after : (c d : C) → IsEarlier number place c d → IsEarlier number place d c → ⊥
  never_after c d before after = grind (arith, before, after)

  named_is : (Has : C → Type 0) (f : Option C) (c : C) → Named Has f → IsTriedFirst number place Has c → f ≡ Some c
  named_is Has None c p n = absurd (p.holds c n.0)
  named_is Has (Some d) c p n = elim (p.holds.1 c n.0) [
    | inr e ↦ ap Some (sym e)
    | inl before ↦ elim (n.1 d p.holds.0) [ inr e ↦ ap Some e | inl after ↦ absurd (never_after d c before after) ]
  ]

  pub is_named : (Has : List ℕ → C → Type 0) (f : List ℕ → Option C) → ((bytes : List ℕ) → Named (Has bytes) (f bytes)) → Names (λ bytes. IsTriedFirst number place (Has bytes)) f
  is_named Has f named = record {
    computed = λ bytes c is. (subst (Named (Has bytes)) is (named bytes)).holds;
    named = λ bytes c first. named_is (Has bytes) (f bytes) c (named bytes) first;
  }

-- tables one behind the other
pub join : {C : Type 0} (xs ys : List (Bool × C)) → option_or (first_fault xs) (first_fault ys) ≡ first_fault (xs ++ ys)
join [] ys = refl
join ((true, c) ∷ xs) ys = refl
join ((false, c) ∷ xs) ys = join xs ys
