-- The first fault, computed, is the one in words.
use Rattle.mig_policy.proofs.Common.{◌≡◌, ◌<◌, ℕ, ◌+◌, ◌%◌, Bool, true, false, List, length, nat_lt, Some, None, sym, ap, ◌∙◌, arith, eqb-true, ◌||◌, ◌⊎◌, if◌then◌else◌, inl, inr, flat_map, common_steps, texts_in, ended, IsTornAt, torn_at, eq-eqb}
use Rattle.mig_policy.proofs.Cuts.{IsCut, cut_of, cut_is, cut_texts, torn_whole, odd_after, parity, is_torn}

sum_zero : (n : ℕ) → 0 + n ≡ n
sum_zero n = omega arith

longer : (n : ℕ) → nat_lt 0 n ≡ true → 0 < n
longer n h = grind (arith, common_steps)

is_longer : (n : ℕ) → 0 < n → nat_lt 0 n ≡ true
is_longer n h = grind (arith, common_steps)

torn_of : (bytes : List ℕ) (place : ℕ) (h : IsCut bytes) → (0 + length (flat_map ended h.texts) ≡ place) × ((nat_lt 0 (length h.rest) ≡ true) ⊎ (odd_after false h.texts ≡ true)) → IsTornAt bytes place
torn_of bytes place h k = record {
  texts = h.texts;
  rest = h.rest;
  each = h.each;
  open_text = h.open_text;
  spelled = h.spelled;
  here = sym (sum_zero (length (flat_map ended h.texts))) ∙ k.0;
  torn = elim k.1 as (λ _. (0 < length h.rest) ⊎ (length h.texts % 2 ≡ 1)) [ inl some ↦ inl (longer (length h.rest) some) | inr odd ↦ inr (eqb-true (length h.texts % 2) 1 (sym (parity h.texts).0 ∙ odd)) ];
}

pub torn_forth : (bytes : List ℕ) (place : ℕ) → torn_at false 0 (texts_in bytes) ≡ Some place → IsTornAt bytes place
torn_forth bytes place e =
    let h = cut_of bytes in
    torn_of bytes place h (is_torn (odd_after false h.texts) (nat_lt 0 (length h.rest)) (0 + length (flat_map ended h.texts)) place (sym (torn_whole false 0 h.texts h.rest) ∙ ap (torn_at false 0) (sym (cut_is bytes h)) ∙ e))

either : (a b : Bool) (p q : ℕ) → p ≡ q → (b ≡ true) ⊎ (a ≡ true) → (if a || b then Some p else None) ≡ Some q
either true b p q e h = ap Some e
either false true p q e h = ap Some e
either false false p q e (inl h) = cc
either false false p q e (inr h) = cc

pub torn_back : (bytes : List ℕ) (place : ℕ) → IsTornAt bytes place → torn_at false 0 (texts_in bytes) ≡ Some place
torn_back bytes place h =
    ap (λ t. torn_at false 0 (texts_in t)) (sym h.spelled) ∙ ap (torn_at false 0) (cut_texts h.texts h.rest h.each h.open_text) ∙ torn_whole false 0 h.texts h.rest
    ∙ either (odd_after false h.texts) (nat_lt 0 (length h.rest)) (0 + length (flat_map ended h.texts)) place (sum_zero (length (flat_map ended h.texts)) ∙ h.here)
    (elim h.torn as (λ _. (nat_lt 0 (length h.rest) ≡ true) ⊎ (odd_after false h.texts ≡ true)) [ inl some ↦ inl (is_longer (length h.rest) some) | inr odd ↦ inr ((parity h.texts).0 ∙ eq-eqb (length h.texts % 2) 1 odd) ])
