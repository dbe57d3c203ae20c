-- Keys that rise are taken off the front of bytes one after another.
use Rattle.mig_policy.proofs.Common.{◌≡◌, ℕ, Bool, true, false, List, [], ◌∷◌, length, Some, refl, sym, ap, subst, ◌∙◌, arith, ◌&&◌, slice_cmp, nat_cmp, is_lt, AreCanonicalPairs, is_key_byte, texts_in, are_rising_texts, IsTrue, ◌↔◌, slice_partial_cmp, lists_agrees, is_some_and, list_all}
use Rattle.mig_headers.proofs.PairTexts.{canonical_pairs_are_computed}
use Rattle.mig_headers.specs.Pairs.{are_canonical_pairs, is_next_key}

-- the computed test is that of the definition
pub spelled_as : (r : Bool) (bytes : List ℕ) → r ≡ are_canonical_pairs bytes → IsTrue r ↔ AreCanonicalPairs bytes
spelled_as r bytes is = subst (λ b. IsTrue b ↔ AreCanonicalPairs bytes) (sym is) (canonical_pairs_are_computed bytes)

pub all_texts : (bytes : List ℕ) → are_canonical_pairs bytes ≡ are_rising_texts [] (texts_in bytes)
unfolding are_canonical_pairs
all_texts bytes = refl

-- nothing is left behind the last pair
pub at_end : (last rest bytes : List ℕ) → length rest ≡ 0 → are_canonical_pairs bytes ≡ are_rising_texts last (texts_in rest) → true ≡ are_canonical_pairs bytes
at_end last [] bytes none same = sym same
at_end last (b ∷ rest) bytes none same = absurd (omega (arith, none))

pub next_key : (last key : List ℕ) (r : Bool) → list_all is_key_byte key ≡ true → r ≡ is_some_and is_lt (slice_partial_cmp (λ x y. Some (nat_cmp x y)) last key) → r ≡ is_next_key last key
next_key last key r bytes is = is ∙ ap (is_some_and is_lt) (lists_agrees {R = nat_cmp} (λ x y. refl) last key) ∙ sym (ap (λ b. b && is_lt (slice_cmp nat_cmp last key)) bytes)

no_more : (a : Bool) → (a && false) ≡ false
no_more true = refl
no_more false = refl

-- a key without a value
pub no_value : (last bytes key behind : List ℕ) → texts_in bytes ≡ key ∷ texts_in behind → texts_in behind ≡ behind ∷ [] → are_rising_texts last (texts_in bytes) ≡ false
no_value last bytes key behind first second = rw (first, second) (no_more (is_next_key last key))

-- a pair
pub after_pair : (last bytes key behind value rest : List ℕ) → texts_in bytes ≡ key ∷ texts_in behind → texts_in behind ≡ value ∷ texts_in rest → is_next_key last key ≡ true
    → are_rising_texts last (texts_in bytes) ≡ are_rising_texts key (texts_in rest)
after_pair last bytes key behind value rest first second next = rw (first, second, next) refl
