-- Sets of which one number, or each word, was changed.
use Rattle.mig_guest.proofs.Common.{bit_at, bit_not, eqb-true, cases_lt, get_or_past, bit_at_set_same, bit_at_set_other, bit_at_clear_same, bit_at_clear_other, bit_at_or, bit_at-lt, bit_at-zero, common_steps, Pfns, pfns_of_words, no_pfns, with_pfn, joined, put_pfn, without_pfn, arith, ◌≡◌, ◌≢◌, ℕ, ◌*◌, ◌^◌, ◌/◌, ◌%◌, ◌<◌, List, length, get_or, slice_set, bit_and, bit_or, w64, Bool, true, false, cond, nat_eq, refl, sym, ap, ◌∙◌, inl, inr, ◌||◌, ◌==◌, max}
use Rattle.std.proofs.lemmas.Bool.Decides.{nat_tests}
use Rattle.std.proofs.Math.Path.{fun_ext}

-- ---- one number

word_same : (words : List ℕ) (p q word : ℕ) → p / 64 < length words → q / 64 ≡ p / 64 → get_or (slice_set words (p / 64) word) (q / 64) 0 ≡ word
word_same words p q word within same = grind (arith, common_steps)

word_other : (words : List ℕ) (p q word : ℕ) → q / 64 ≢ p / 64 → get_or (slice_set words (p / 64) word) (q / 64) 0 ≡ get_or words (q / 64) 0
word_other words p q word differ = grind (arith, common_steps)

is_same : (p q : ℕ) → q / 64 ≡ p / 64 → q % 64 ≡ p % 64 → q ≡ p
is_same p q d r = omega arith

eq_yes : (p q : ℕ) → q ≡ p → (q == p) ≡ true
eq_yes p q e = grind (arith, nat_tests)

eq_no : (p q : ℕ) → q ≢ p → (q == p) ≡ false
eq_no p q e = grind (arith, nat_tests)

differ_by : (p q : ℕ) → nat_eq q p ≡ false → q ≢ p
differ_by p q e is = grind (arith, nat_tests)

-- the word of p is replaced by one that differs in its bit alone
module _ (words : List ℕ) (p word bit : ℕ) (within : p / 64 < length words) (here : bit_at word (p % 64) ≡ bit) (others : (i : ℕ) → i < 64 → i ≢ p % 64 → bit_at word i ≡ bit_at (get_or words (p / 64) 0) i) where
  changed_at : (q : ℕ) (a b : Bool) → nat_eq (q / 64) (p / 64) ≡ a → nat_eq (q % 64) (p % 64) ≡ b → pfns_of_words (slice_set words (p / 64) word) q ≡ put_pfn p (bit == 1) (pfns_of_words words) q
  changed_at q true true d r =
      let same = eqb-true _ _ d in let rest = eqb-true _ _ r in
      ap (λ w. bit_at w (q % 64) == 1) (word_same words p q word within same) ∙ ap (λ k. bit_at word k == 1) rest ∙ ap (λ b. b == 1) here
      ∙ sym (ap (λ t. cond t (bit == 1) (pfns_of_words words q)) (eq_yes p q (is_same p q same rest)))
  changed_at q true false d r =
      let same = eqb-true _ _ d in
      ap (λ w. bit_at w (q % 64) == 1) (word_same words p q word within same)
      ∙ ap (λ n. n == 1) (others (q % 64) (omega arith) (differ_by _ _ r)) ∙ ap (λ k. bit_at (get_or words k 0) (q % 64) == 1) (sym same)
      ∙ sym (ap (λ t. cond t (bit == 1) (pfns_of_words words q)) (eq_no p q (λ e. differ_by _ _ r (ap (λ n. n % 64) e))))
  changed_at q false b d r =
      ap (λ w. bit_at w (q % 64) == 1) (word_other words p q word (differ_by _ _ d))
      ∙ sym (ap (λ t. cond t (bit == 1) (pfns_of_words words q)) (eq_no p q (λ e. differ_by _ _ d (ap (λ n. n / 64) e))))

  changed : pfns_of_words (slice_set words (p / 64) word) ≡ put_pfn p (bit == 1) (pfns_of_words words)
  changed = fun_ext (λ q. changed_at q (nat_eq (q / 64) (p / 64)) (nat_eq (q % 64) (p % 64)) refl refl)

put_at : (set : Pfns) (q : ℕ) (t : Bool) → cond t true (set q) ≡ (t || set q)
put_at set q true = refl
put_at set q false = refl

pub put_is_with : (p : ℕ) (set : Pfns) → put_pfn p true set ≡ with_pfn p set
put_is_with p set = fun_ext (λ q. put_at set q (q == p))

pub inserted : (words : List ℕ) (p : ℕ) → p / 64 < length words → pfns_of_words (slice_set words (p / 64) (bit_or (get_or words (p / 64) 0) (1 * 2 ^ (p % 64) % 2 ^ 64))) ≡ with_pfn p (pfns_of_words words)
inserted words p within =
    changed words p (bit_or (get_or words (p / 64) 0) (1 * 2 ^ (p % 64) % 2 ^ 64)) 1 within (bit_at_set_same w64 (get_or words (p / 64) 0) (p % 64) (omega arith))
    (λ i small. bit_at_set_other w64 (get_or words (p / 64) 0) (p % 64) (omega arith) i)
    ∙ put_is_with p (pfns_of_words words)

pub removed : (words : List ℕ) (p : ℕ) → p / 64 < length words → pfns_of_words (slice_set words (p / 64) (bit_and (get_or words (p / 64) 0) (bit_not w64 (1 * 2 ^ (p % 64) % 2 ^ 64)))) ≡ without_pfn p (pfns_of_words words)
removed words p within =
    changed words p (bit_and (get_or words (p / 64) 0) (bit_not w64 (1 * 2 ^ (p % 64) % 2 ^ 64))) 0 within (bit_at_clear_same w64 (get_or words (p / 64) 0) (p % 64) (omega arith))
    (λ i small. bit_at_clear_other w64 (get_or words (p / 64) 0) (p % 64) (omega arith) i small)

-- ---- two sets

either_at : (x y : ℕ) → x < 2 → y < 2 → (max x y == 1) ≡ ((x == 1) || (y == 1))
either_at x y a b = grind (arith, nat_tests)

both_at : (word a b i : ℕ) → word ≡ bit_or a b → (bit_at word i == 1) ≡ ((bit_at a i == 1) || (bit_at b i == 1))
both_at word a b i e = ap (λ w. bit_at w i == 1) e ∙ ap (λ x. x == 1) (bit_at_or a b i) ∙ either_at (bit_at a i) (bit_at b i) (bit_at-lt a i) (bit_at-lt b i)

past_at : (word a b i : ℕ) → word ≡ 0 → a ≡ 0 → b ≡ 0 → (bit_at word i == 1) ≡ ((bit_at a i == 1) || (bit_at b i == 1))
past_at word a b i e f g =
    ap (λ w. bit_at w i == 1) e ∙ ap (λ x. x == 1) (bit_at-zero i)
    ∙ sym (ap (λ w. (bit_at w i == 1) || (bit_at b i == 1)) f ∙ ap (λ x. (x == 1) || (bit_at b i == 1)) (bit_at-zero i) ∙ ap (λ w. bit_at w i == 1) g ∙ ap (λ x. x == 1) (bit_at-zero i))

pub both_joined : (old new other : List ℕ) → length new ≡ length old → length other ≡ length old → ((k : ℕ) → k < length old → get_or new k 0 ≡ bit_or (get_or old k 0) (get_or other k 0))
    → pfns_of_words new ≡ joined (pfns_of_words old) (pfns_of_words other)
both_joined old new other same wide done = fun_ext (λ q. elim (cases_lt (q / 64) (length old)) [
  | inl less ↦ both_at (get_or new (q / 64) 0) (get_or old (q / 64) 0) (get_or other (q / 64) 0) (q % 64) (done (q / 64) less)
  | inr past ↦ past_at (get_or new (q / 64) 0) (get_or old (q / 64) 0) (get_or other (q / 64) 0) (q % 64)
      (get_or_past new (q / 64) 0 (omega arith)) (get_or_past old (q / 64) 0 past) (get_or_past other (q / 64) 0 (omega arith))
])

-- ---- no number

no_bit : (word i : ℕ) → word ≡ 0 → nat_eq (bit_at word i) 1 ≡ false
no_bit word i e = ap (λ (w : ℕ). nat_eq (bit_at w i) 1) e ∙ ap (λ (b : ℕ). nat_eq b 1) (bit_at-zero i)

pub cleared : (words : List ℕ) → ((k : ℕ) → get_or words k 0 ≡ 0) → pfns_of_words words ≡ no_pfns
cleared words each = fun_ext (λ p. no_bit (get_or words (p / 64) 0) (p % 64) (each (p / 64)))
