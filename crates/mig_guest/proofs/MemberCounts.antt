-- A word has as many members as bits that are set.
use Rattle.mig_guest.proofs.Common.{arith, ◌≡◌, ℕ, zero, suc, ◌+◌, ◌*◌, ◌/◌, ◌%◌, ◌^◌, ◌≤◌, ◌<◌, List, get_or, Bool, true, false, refl, sym, ap, ◌∙◌, bit_at, ones-le, ones_cat, shr_split, shr_below, bit_at_cat_low, Pfns, size, pfns_of_words, ◌==◌}
use Rattle.std.specs.Int.Count.{ones, ones_in}
use Rattle.mig_guest.proofs.Sizes.{next, size_more, size_stays, same_size}

abbrev pub bits_of : ℕ → Pfns
bits_of n i = bit_at n i == 1

one_bit : ones 1 ≡ 1
unfolding ones ones_in
one_bit = refl

no_bits : (n : ℕ) → n < 1 → ones n ≡ 0
no_bits n h = let le : ones n ≤ 0 = ones-le 0 n h in omega arith

-- the highest bit, and those below it
with_bit : (k n a : ℕ) → n / 2 ^ k ≡ a → a < 2 → ones a + size k (bits_of n) ≡ size (suc k) (bits_of n)
with_bit k n zero e h = ap (λ x. x + size k (bits_of n)) (no_bits 0 (omega arith)) ∙ omega (arith, next (bits_of n) k, size_stays (bits_of n) k (ap (λ x. (x % 2) == 1) e))
with_bit k n (suc zero) e h = ap (λ x. x + size k (bits_of n)) one_bit ∙ omega (arith, next (bits_of n) k, size_more (bits_of n) k (ap (λ x. (x % 2) == 1) e))
with_bit k n (suc (suc a)) e h = absurd (omega arith)

low_same : (k n q : ℕ) → q < k → bit_at (n % 2 ^ k) q ≡ bit_at n q
low_same k n q less = sym (bit_at_cat_low (n / 2 ^ k) k (n % 2 ^ k) q less) ∙ ap (λ x. bit_at x q) (shr_split n k)

pub counted : (k n : ℕ) → n < 2 ^ k → ones n ≡ size k (bits_of n)
counted zero n h = no_bits n h
counted (suc k) n h =
    let low : n % 2 ^ k < 2 ^ k = omega arith in
    let top : n / 2 ^ k < 2 ^ 1 = shr_below n 1 k (let e : 2 ^ (1 + k) ≡ 2 ^ suc k = ap (λ j. 2 ^ j) (let f : 1 + k ≡ suc k = omega arith in f) in omega arith) in
    ap ones (sym (shr_split n k)) ∙ ones_cat k (n / 2 ^ k) (n % 2 ^ k) low
    ∙ ap (λ x. ones (n / 2 ^ k) + x) (counted k (n % 2 ^ k) low ∙ same_size (bits_of (n % 2 ^ k)) (bits_of n) k (λ q less. ap (λ b. b == 1) (low_same k n q less)))
    ∙ with_bit k n (n / 2 ^ k) refl top

-- ---- a word of a set

pub in_word : (words : List ℕ) (index i : ℕ) → i < 64 → pfns_of_words words (64 * index + i) ≡ bits_of (get_or words index 0) i
in_word words index i less =
    ap (λ k. bit_at (get_or words k 0) ((64 * index + i) % 64) == 1) (let e : (64 * index + i) / 64 ≡ index = omega arith in e)
    ∙ ap (λ k. bit_at (get_or words index 0) k == 1) (let e : (64 * index + i) % 64 ≡ i = omega arith in e)

more : (words : List ℕ) (index k : ℕ) (b : Bool) → k < 64 → bits_of (get_or words index 0) k ≡ b
    → size (64 * index + k) (pfns_of_words words) ≡ size (64 * index) (pfns_of_words words) + size k (bits_of (get_or words index 0))
    → size (64 * index + suc k) (pfns_of_words words) ≡ size (64 * index) (pfns_of_words words) + size (suc k) (bits_of (get_or words index 0))
more words index k true less is h =
    ap (λ n. size n (pfns_of_words words)) (let e : 64 * index + suc k ≡ 64 * index + k + 1 = omega arith in e)
    ∙ omega (arith, size_more (pfns_of_words words) (64 * index + k) (in_word words index k less ∙ is), next (bits_of (get_or words index 0)) k, size_more (bits_of (get_or words index 0)) k is)
more words index k false less is h =
    ap (λ n. size n (pfns_of_words words)) (let e : 64 * index + suc k ≡ 64 * index + k + 1 = omega arith in e)
    ∙ omega (arith, size_stays (pfns_of_words words) (64 * index + k) (in_word words index k less ∙ is), next (bits_of (get_or words index 0)) k, size_stays (bits_of (get_or words index 0)) k is)

part_counted : (words : List ℕ) (index k : ℕ) → k ≤ 64
    → size (64 * index + k) (pfns_of_words words) ≡ size (64 * index) (pfns_of_words words) + size k (bits_of (get_or words index 0))
part_counted words index zero le = ap (λ n. size n (pfns_of_words words)) (let e : 64 * index + zero ≡ 64 * index = omega arith in e) ∙ (let e : size (64 * index) (pfns_of_words words) ≡ size (64 * index) (pfns_of_words words) + 0 = omega arith in e)
part_counted words index (suc k) le = more words index k (bits_of (get_or words index 0) k) (omega arith) refl (part_counted words index k (omega arith))

-- one word more
pub word_counted : (words : List ℕ) (index : ℕ) → get_or words index 0 < 2 ^ 64
    → size (64 * (index + 1)) (pfns_of_words words) ≡ size (64 * index) (pfns_of_words words) + ones (get_or words index 0)
word_counted words index fits =
    ap (λ n. size n (pfns_of_words words)) (let e : 64 * (index + 1) ≡ 64 * index + 64 = omega arith in e)
    ∙ part_counted words index 64 (omega arith) ∙ ap (λ n. size (64 * index) (pfns_of_words words) + n) (sym (counted 64 (get_or words index 0) fits))
