-- Sets of all numbers below a width.
use Rattle.mig_guest.proofs.Common.{bit_at, cases_lt, lt-ltb, le-ltb, get_or_past, one_shl, bit_at-zero, bit_at_ones, bit_at_ones_above, common_steps, pfns_of_words, all_below, ◌==◌}
use Rattle.std.proofs.Common.{arith, ◌≡◌, ◌≢◌, ℕ, ◌+◌, ◌-◌, ◌*◌, ◌/◌, ◌%◌, ◌^◌, ◌≤◌, ◌<◌, List, length, get_or, slice_set, false, nat_lt, sym, ap, ◌∙◌, inl, inr}
use Rattle.std.proofs.Math.Path.{fun_ext}

-- ---- a word

pub ones_below : (k i : ℕ) → k < 64 → i < k → bit_at (1 * 2 ^ k % 2 ^ 64 - 1) i ≡ 1
ones_below k i small less = ap (λ w. bit_at (w - 1) i) (one_shl k 64 small) ∙ bit_at_ones k i less

pub ones_above : (k i : ℕ) → k < 64 → k ≤ i → bit_at (1 * 2 ^ k % 2 ^ 64 - 1) i ≡ 0
ones_above k i small le = ap (λ w. bit_at (w - 1) i) (one_shl k 64 small) ∙ bit_at_ones_above k i le

pub all_ones : (i : ℕ) → i < 64 → bit_at (2 ^ 64 - 1) i ≡ 1
all_ones i less = bit_at_ones 64 i less

-- ---- words

word_here : (words : List ℕ) (index word k : ℕ) → index < length words → k ≡ index → get_or (slice_set words index word) k 0 ≡ word
word_here words index word k within same = grind (arith, common_steps)

word_other : (words : List ℕ) (index word k : ℕ) → k ≢ index → get_or (slice_set words index word) k 0 ≡ get_or words k 0
word_other words index word k differ = grind (arith, common_steps)

module _ (words : List ℕ) (width index word : ℕ) (done : (p : ℕ) → p < 64 * index → pfns_of_words words p ≡ nat_lt p width) (within : index < length words)
    (low : (i : ℕ) → i < 64 → i < width - 64 * index → bit_at word i ≡ 1) (high : (i : ℕ) → i < 64 → width - 64 * index ≤ i → bit_at word i ≡ 0) where
  in_it : (p : ℕ) → p / 64 ≡ index → (bit_at word (p % 64) == 1) ≡ nat_lt p width
  in_it p at = elim (cases_lt p width) [
    | inl less ↦ ap (λ b. b == 1) (low (p % 64) (omega arith) (omega arith)) ∙ sym (lt-ltb p width less)
    | inr past ↦ ap (λ b. b == 1) (high (p % 64) (omega arith) (omega arith)) ∙ sym (le-ltb p width past)
  ]

  pub filled_more : (p : ℕ) → p < 64 * (index + 1) → pfns_of_words (slice_set words index word) p ≡ nat_lt p width
  filled_more p less = elim (cases_lt p (64 * index)) [
    | inl before ↦ ap (λ w. bit_at w (p % 64) == 1) (word_other words index word (p / 64) (λ e. let at : p / 64 ≡ index = e in omega arith)) ∙ done p before
    | inr here ↦ let at : p / 64 ≡ index = omega arith in ap (λ w. bit_at w (p % 64) == 1) (word_here words index word (p / 64) within at) ∙ in_it p at
  ]

nothing_at : (words : List ℕ) (p : ℕ) → get_or words (p / 64) 0 ≡ 0 → pfns_of_words words p ≡ false
nothing_at words p e = ap (λ w. bit_at w (p % 64) == 1) e ∙ ap (λ b. b == 1) (bit_at-zero (p % 64))

pub all_filled : (words : List ℕ) (width n : ℕ) → length words ≡ (width + 63) / 64 → length words ≤ n → ((p : ℕ) → p < 64 * n → pfns_of_words words p ≡ nat_lt p width) → pfns_of_words words ≡ all_below width
all_filled words width n size end done = fun_ext (λ p. elim (cases_lt p (64 * n)) [
  | inl less ↦ done p less
  | inr past ↦ nothing_at words p (get_or_past words (p / 64) 0 (omega arith)) ∙ sym (le-ltb p width (omega arith))
])
