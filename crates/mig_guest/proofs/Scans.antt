-- The least member from a frame number on.
use Rattle.mig_guest.proofs.Common.{bit_at, trailing_zeros, cases_lt, get_or_past, shr-shr, shr_le, bit_at-zero, bit_at_above, bit_at-trailing_zeros, pfns_of_words, arith, ◌≡◌, ℕ, ◌+◌, ◌-◌, ◌*◌, ◌/◌, ◌%◌, ◌^◌, ◌≤◌, ◌<◌, List, length, get_or, false, w64, refl, sym, ap, ◌∙◌, inl, inr, ◌==◌}

-- ---- a bit of a word

shifted : (word from i : ℕ) → bit_at (word / 2 ^ from) i ≡ bit_at word (from + i)
shifted word from i = ap (λ x. x % 2) (shr-shr word from i)

behind : (from i : ℕ) → from ≤ i → i ≡ from + (i - from)
behind from i le = omega arith

pub no_bit_from : (word from : ℕ) → word / 2 ^ from ≡ 0 → (i : ℕ) → from ≤ i → bit_at word i ≡ 0
no_bit_from word from none i le = ap (bit_at word) (behind from i le) ∙ sym (shifted word from (i - from)) ∙ ap (λ r. bit_at r (i - from)) none ∙ bit_at-zero (i - from)

module _ (word from : ℕ) (fits : word < 2 ^ 64) (some : 0 < word / 2 ^ from) where
  lowest : (trailing_zeros w64 (word / 2 ^ from) < 64) × (bit_at (word / 2 ^ from) (trailing_zeros w64 (word / 2 ^ from)) ≡ 1) × ((i : ℕ) → i < trailing_zeros w64 (word / 2 ^ from) → bit_at (word / 2 ^ from) i ≡ 0)
  lowest = bit_at-trailing_zeros w64 (word / 2 ^ from) some (omega (arith, shr_le word from))

  pub bit_set : bit_at word (from + trailing_zeros w64 (word / 2 ^ from)) ≡ 1
  bit_set = sym (shifted word from (trailing_zeros w64 (word / 2 ^ from))) ∙ lowest.1

  pub bit_inside : from + trailing_zeros w64 (word / 2 ^ from) < 64
  bit_inside = elim (cases_lt (from + trailing_zeros w64 (word / 2 ^ from)) 64) [
    | inl less ↦ less
    | inr past ↦ absurd (let none = bit_at_above word 64 (from + trailing_zeros w64 (word / 2 ^ from)) fits past in let set = bit_set in omega arith)
  ]

  pub bits_before : (i : ℕ) → from ≤ i → i < from + trailing_zeros w64 (word / 2 ^ from) → bit_at word i ≡ 0
  bits_before i le less = ap (bit_at word) (behind from i le) ∙ sym (shifted word from (i - from)) ∙ lowest.2 (i - from) (omega arith)

-- ---- words

in_set : (words : List ℕ) (index q b : ℕ) → q / 64 ≡ index → bit_at (get_or words index 0) (q % 64) ≡ b → pfns_of_words words q ≡ (b == 1)
in_set words index q b at is = ap (λ k. bit_at (get_or words k 0) (q % 64) == 1) at ∙ ap (λ x. x == 1) is

pub words_below : (words : List ℕ) (q : ℕ) → 64 * length words ≤ q → pfns_of_words words q ≡ false
words_below words q le = in_set words (q / 64) q 0 refl (ap (λ w. bit_at w (q % 64)) (get_or_past words (q / 64) 0 (omega arith)) ∙ bit_at-zero (q % 64))

-- nothing from p on, and before q, is in the set
abbrev pub NoneBetween : List ℕ → ℕ → ℕ → Type 0
NoneBetween words p end = (q : ℕ) → p ≤ q → q < end → pfns_of_words words q ≡ false

pub none_yet : (words : List ℕ) (p end : ℕ) → end ≤ p → NoneBetween words p end
none_yet words p end le q low high = absurd (omega arith)
