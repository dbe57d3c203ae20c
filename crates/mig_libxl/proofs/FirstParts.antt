-- What the first part of a code says of all parts.
use Rattle.mig_libxl.proofs.Common.{◌≡◌, ℕ, ◌≤◌, Bool, true, false, List, [], ◌∷◌, Option, Some, None, is_some, refl, sym, ap, subst, ◌∙◌, arith, ◌==◌, ◌&&◌, ◌||◌, All, list_any, is_lt, nat_cmp, Equal, eqb-true, All-head, part_cmp, Part, PartMap, parts_of, PartKey, all_of, has_emulators, is_of_converter, common_steps, ne_eqb, list_any_none, NextPart, filter, eqb-false}
use Rattle.std.specs.Ordering.{ordering_then}
use Rattle.std.specs.declared.cmp.Ordering.{Ordering}
use Rattle.std.specs.declared.cmp.Ordering.TheVariants.{Less, Greater}
use Rattle.std.proofs.lemmas.Cmp.{nat_cmp_total, ranked, tied_itself}
use Rattle.std.proofs.lemmas.List.Elements.{All-filter, filter_passes}
use Rattle.std.specs.FinMap as maps

-- ---- tests of some element

module _ {X : Type 0} (p q : X → Bool) where
  -- some element passes both tests where the second passes one of those that pass the first
  pub any_both : (xs : List X) → list_any (λ x. p x && q x) xs ≡ list_any q (filter p xs)
  any_both [] = refl
  any_both (x ∷ xs) = grind (arith, common_steps, any_both xs)

  -- some element passes one of the tests, and a third
  pub any_either : (r : X → Bool) (xs : List X) → list_any (λ x. (p x || q x) && r x) xs ≡ (list_any (λ x. p x && r x) xs || list_any (λ x. q x && r x) xs)
  any_either r [] = refl
  any_either r (x ∷ xs) = grind (arith, common_steps, any_either r xs)

  pub any_or : (xs : List X) → list_any (λ x. p x || q x) xs ≡ (list_any p xs || list_any q xs)
  any_or [] = refl
  any_or (x ∷ xs) = grind (arith, common_steps, any_or xs)

pub any_kept : {X : Type 0} (p : X → Bool) (xs : List X) → list_any p xs ≡ list_any (λ _. true) (filter p xs)
any_kept p [] = refl
any_kept p (x ∷ xs) = grind (arith, common_steps, any_kept p xs)

-- ---- the first part of a code

-- of two keys of one code the lower has no greater first number
key1_up : (a b : PartKey) → a.code ≡ b.code → is_lt (part_cmp a b) ≡ true → a.key1 ≤ b.key1
key1_up a b code less = by (nat_cmp a.key1 b.key1) refl (sym (ap (λ r. is_lt (ordering_then r (ordering_then (nat_cmp a.key1 b.key1) (nat_cmp a.key2 b.key2)))) same) ∙ less)
  where
    same : nat_cmp a.code b.code ≡ Equal
    same = ap (nat_cmp a.code) (sym code) ∙ tied_itself nat_cmp_total a.code

    by : (r : Ordering) → nat_cmp a.key1 b.key1 ≡ r → is_lt (ordering_then r (nat_cmp a.key2 b.key2)) ≡ true → a.key1 ≤ b.key1
    by Less is t = omega (arith, ranked a.key1 b.key1 Less (sym is))
    by Equal is t = omega (arith, ranked a.key1 b.key1 Equal (sym is))
    by Greater is t = cc

module _ (code : ℕ) (es : List Part) where
  pub some_of_code : (r : Option Part) → NextPart code None es r → is_some r ≡ list_any (λ e. e.0.code == code) es
  some_of_code None h = sym (any_kept (λ (e : Part). e.0.code == code) es ∙ ap (list_any (λ _. true)) h)
  some_of_code (Some e) h = sym (any_kept (λ (e : Part). e.0.code == code) es ∙ ap (list_any (λ _. true)) h)

  -- none of this code
  pub zero_of_none : NextPart code None es None → list_any (λ e. (e.0.code == code) && (e.0.key1 == 0)) es ≡ false
  zero_of_none h = any_both (λ (e : Part). e.0.code == code) (λ e. e.0.key1 == 0) es ∙ ap (list_any (λ (e : Part). e.0.key1 == 0)) h

  module _ (e : Part) (h : NextPart code None es (Some e)) where
    abbrev above : Part → Bool
    above x = is_lt (part_cmp e.0 x.0)

    all_codes : All (λ x. (x.0.code == code) ≡ true) (parts_of code es)
    all_codes = filter_passes (λ (x : Part). x.0.code == code) es

    of_code : e.0.code ≡ code
    of_code = eqb-true e.0.code code (All-head (λ (x : Part). (x.0.code == code) ≡ true) e (filter above (parts_of code es)) (subst (All (λ (x : Part). (x.0.code == code) ≡ true)) h all_codes))

    no_zero : (e.0.key1 == 0) ≡ false → All (λ x. (x.0.key1 == 0) ≡ false) (filter above (parts_of code es))
    no_zero some = all_of (λ x. (x.0.code == code) ≡ true) (λ x. above x ≡ true) (λ x. (x.0.key1 == 0) ≡ false)
        (λ x is up. ne_eqb x.0.key1 0 (λ none. eqb-false e.0.key1 0 some (let le = key1_up e.0 x.0 (of_code ∙ sym (eqb-true x.0.code code is)) up in omega (arith, le, none))))
        (filter above (parts_of code es)) (All-filter above (λ x. (x.0.code == code) ≡ true) (parts_of code es) all_codes) (filter_passes above (parts_of code es))

    -- the least key tells whether some has 0
    pub zero_of_first : list_any (λ x. (x.0.code == code) && (x.0.key1 == 0)) es ≡ (e.0.key1 == 0)
    zero_of_first = any_both (λ (x : Part). x.0.code == code) (λ x. x.0.key1 == 0) es ∙ ap (list_any (λ (x : Part). x.0.key1 == 0)) h ∙ by (e.0.key1 == 0) refl
      where
        by : (b : Bool) → (e.0.key1 == 0) ≡ b → ((e.0.key1 == 0) || list_any (λ (x : Part). x.0.key1 == 0) (filter above (parts_of code es))) ≡ (e.0.key1 == 0)
        by true is = ap (λ b. b || list_any (λ (x : Part). x.0.key1 == 0) (filter above (parts_of code es))) is ∙ sym is
        by false is = ap (λ b. b || list_any (λ (x : Part). x.0.key1 == 0) (filter above (parts_of code es))) is ∙ list_any_none (λ (x : Part). x.0.key1 == 0) (filter above (parts_of code es)) (no_zero is) ∙ sym is

-- ---- the two codes of emulators

module _ (parts : PartMap) where
  pub either_code : has_emulators parts ≡ (list_any (λ e. e.0.code == 258) (maps.entries parts) || list_any (λ e. e.0.code == 259) (maps.entries parts))
  either_code = any_or (λ (e : Part). e.0.code == 258) (λ e. e.0.code == 259) (maps.entries parts)

  pub either_zero : is_of_converter parts
      ≡ (list_any (λ e. (e.0.code == 258) && (e.0.key1 == 0)) (maps.entries parts) || list_any (λ e. (e.0.code == 259) && (e.0.key1 == 0)) (maps.entries parts))
  either_zero = any_either (λ (e : Part). e.0.code == 258) (λ e. e.0.code == 259) (λ e. e.0.key1 == 0) (maps.entries parts)
