-- The first slot of a table, or field of a context, that passes a test.
use Rattle.mig_pvtables.proofs.Common.{◌≡◌, ℕ, zero, suc, ◌+◌, ◌<◌, ◌≤◌, Bool, true, false, cond, Some, None, refl, sym, ap, subst, ◌∙◌, inl, inr, arith, ◌↔◌, find, range_with_len, cases_eq}
use Rattle.mig_pvtables.specs.Faults.{slots, field_numbers}
use Rattle.mig_pvtables.proofs.Searches.{find_in_range}

module _ (p : ℕ → Bool) where
  pub first_in_range : (a n k : ℕ) → a ≤ k → k < a + n → p k ≡ true → ((j : ℕ) → a ≤ j → j < k → p j ≡ false) → find p (range_with_len a n) ≡ Some k
  first_in_range a zero k le lt here before = absurd (omega (arith, le, lt))
  first_in_range a (suc n) k le lt here before = elim (cases_eq a k) [
    | inl e ↦ subst (λ m. cond (p a) (Some a) (find p (range_with_len (a + 1) n)) ≡ Some m) e (ap (λ b. cond b (Some a) (find p (range_with_len (a + 1) n))) (ap p e ∙ here))
    | inr ne ↦ ap (λ b. cond b (Some a) (find p (range_with_len (a + 1) n))) (before a (omega arith) (omega (arith, le, ne)))
        ∙ first_in_range (a + 1) n k (omega (arith, le, ne)) (omega (arith, lt)) here (λ j more under. before j (omega (arith, more)) under)
  ]

  -- what is found stands in the range, and passes
  pub found_in_range : (a n k : ℕ) → find p (range_with_len a n) ≡ Some k → (k < a + n) × (p k ≡ true)
  found_in_range a zero k is = cc
  found_in_range a (suc n) k is = elim (p a) as (λ b. p a ≡ b → cond b (Some a) (find p (range_with_len (a + 1) n)) ≡ Some k → (k < a + suc n) × (p k ≡ true)) [
    | true ↦ λ t at. let same : a ≡ k = cc in (omega (arith, same), ap p (sym same) ∙ t)
    | false ↦ λ t at. let (lt, passes) = found_in_range (a + 1) n k at in (omega (arith, lt), passes)
  ] refl is

  -- and before it stands nothing that passes
  none_before : (a n k : ℕ) → find p (range_with_len a n) ≡ Some k → (j : ℕ) → a ≤ j → j < k → p j ≡ false
  none_before a zero k is j le lt = cc
  none_before a (suc n) k is j le lt = elim (p a) as (λ b. p a ≡ b → cond b (Some a) (find p (range_with_len (a + 1) n)) ≡ Some k → p j ≡ false) [
    | true ↦ λ t at. let same : a ≡ k = cc in absurd (omega (arith, same, le, lt))
    | false ↦ λ t at. elim (cases_eq a j) [
      | inl e ↦ ap p (sym e) ∙ t
      | inr ne ↦ none_before (a + 1) n k at j (omega (arith, le, ne)) lt
    ]
  ] refl is

  -- the slot that is found
  pub slot_found : (k : ℕ) → find p slots ≡ Some k → (k < 512) × (p k ≡ true) × ((j : ℕ) → j < k → p j ≡ false)
  unfolding slots
  slot_found k is = let (lt, passes) = found_in_range 0 512 k is in (omega (arith, lt), passes, λ j under. none_before 0 512 k is j (omega arith) under)

  pub first_slot : (k : ℕ) → k < 512 → p k ≡ true → ((j : ℕ) → j < k → p j ≡ false) → Some k ≡ find p slots
  unfolding slots
  first_slot k lt here before = sym (first_in_range 0 512 k (omega arith) (omega (arith, lt)) here (λ j _ under. before j under))

  pub no_slot : (find p slots ≡ None) ↔ ((k : ℕ) → k < 512 → p k ≡ false)
  unfolding slots
  no_slot = find_in_range p 512

  pub first_field : (k : ℕ) → k < 19 → p k ≡ true → ((j : ℕ) → j < k → p j ≡ false) → find p field_numbers ≡ Some k
  unfolding field_numbers
  first_field k lt here before = first_in_range 0 19 k (omega arith) (omega (arith, lt)) here (λ j _ under. before j under)

  pub no_field : (find p field_numbers ≡ None) ↔ ((k : ℕ) → k < 19 → p k ≡ false)
  unfolding field_numbers
  no_field = find_in_range p 19
