-- Tests of numbers and of what may be missing, and what they say.
use Rattle.mig_refusals.proofs.Common.{◌≡◌, ◌⊎◌, inl, inr, ℕ, true, not, nat_eq, ap, eq-eqb, eqb-false, eqb-true, ne_eqb, not-true, or_cases, or_left, or_right, ◌||◌}

pub differs : (n m : ℕ) → not (nat_eq n m) ≡ true → n ≡ m → ⊥
differs n m h = eqb-false n m (not-true _ h)

pub test_differs : (n m : ℕ) → (n ≡ m → ⊥) → not (nat_eq n m) ≡ true
test_differs n m h = ap not (ne_eqb n m h)

pub one_of : (n a b : ℕ) → (nat_eq n a || nat_eq n b) ≡ true → (n ≡ a) ⊎ (n ≡ b)
one_of n a b h = elim (or_cases _ _ h) [ inl e ↦ inl (eqb-true _ _ e) | inr e ↦ inr (eqb-true _ _ e) ]

pub is_one : (n a b : ℕ) → (n ≡ a) ⊎ (n ≡ b) → (nat_eq n a || nat_eq n b) ≡ true
is_one n a b (inl e) = or_left _ _ (eq-eqb _ _ e)
is_one n a b (inr e) = or_right _ _ (eq-eqb _ _ e)
