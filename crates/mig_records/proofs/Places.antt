-- The first place of a list where a test passes.
use Rattle.mig_records.proofs.Common.{common_steps, position_or_len, list_any, IsFirst}
use Rattle.std.proofs.Common.{◌≡◌, ◌<◌, ℕ, zero, suc, Bool, true, false, List, [], ◌∷◌, length, Some, None, position, All, arith}
use Rattle.std.proofs.lemmas.List.Quantifiers.{position-Some}

module _ (p : ℕ → Bool) where
  -- there is a place of the first exactly where some element passes
  pub place_within : (xs : List ℕ) → list_any p xs ≡ true → position_or_len p xs < length xs
  place_within [] h = grind (arith, common_steps)
  place_within (x ∷ xs) h = grind (arith, common_steps, place_within xs)

  pub any_at_place : (xs : List ℕ) → position_or_len p xs < length xs → list_any p xs ≡ true
  any_at_place [] h = grind (arith, common_steps)
  any_at_place (x ∷ xs) h = grind (arith, common_steps, any_at_place xs)

  pub position_some : (xs : List ℕ) (i : ℕ) → position p xs ≡ Some i → (list_any p xs ≡ true) × (position_or_len p xs ≡ i)
  position_some xs i h = grind (arith, common_steps, any_at_place xs)

  pub position_none : (xs : List ℕ) → position p xs ≡ None → list_any p xs ≡ false
  position_none xs h = grind (arith, common_steps, place_within xs)

  -- the place of the first, where there is one
  pub place_is_first : (xs : List ℕ) → list_any p xs ≡ true → IsFirst p xs (position_or_len p xs)
  place_is_first xs h =
      let within : position_or_len p xs < length xs = place_within xs h in
      let is : position p xs ≡ Some (position_or_len p xs) = grind (arith, common_steps) in
      let facts = position-Some p xs (position_or_len p xs) 0 is in
      record { within = facts.0; passes = facts.1; none_before = facts.2 }

  -- no element passes
  pub none_pass : (xs : List ℕ) → list_any p xs ≡ false → All (λ x. p x ≡ false) xs
  none_pass [] h k d lt = absurd (omega arith)
  none_pass (x ∷ xs) h zero d lt = grind (arith, common_steps)
  none_pass (x ∷ xs) h (suc k) d lt = none_pass xs (grind (arith, common_steps)) k d (omega arith)
