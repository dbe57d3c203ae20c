-- The hexadecimal digits of a number spell it.
use Rattle.mig_legacy.proofs.Common.{get_or-drop, prefix_len_stops, min, digit_value, number_of_digits, DigitsSpellNumbers, big_bytes}
use Rattle.mig_legacy.proofs.ChunkCommon.{◌≡◌, ℕ, zero, suc, ◌+◌, ◌-◌, ◌<◌, ◌≤◌, ◌/◌, ◌%◌, Bool, true, false, not, cond, List, [], ◌∷◌, length, drop, nat_eq, refl, sym, ap, ◌∙◌, arith, eqb-true, slice_index, common_steps, hexadecimal, position_or_len, All, AllByRecursion, All-from_recursion, All-drop, without_zeros}
use Rattle.std.proofs.Common.{◌*◌, ◌^◌, ◌≢◌, ◌⊎◌, inl, inr, fold, subst, get_or, nat_lt, length-drop}
use Rattle.std.proofs.lemmas.Bool.{ltb-true, ltb-false}
use Rattle.std.proofs.Math.Nat.{div-add-mod', div-div-eq-div-mul, div-one, div-eq_of_lt, mod-lt, pow-suc}
use Rattle.std.specs.Int.{byte_at, bytes_high_first}
use Rattle.hex.specs.Hex.{lower_digits, encode_with, encode_lower}

-- one more digit is read
abbrev read : ℕ → ℕ → ℕ
read n digit = 16 * n + digit_value digit

value_of_digit : (i : ℕ) → i < 16 → digit_value (slice_index lower_digits i) ≡ i
value_of_digit zero lt = refl
value_of_digit (suc zero) lt = refl
value_of_digit (suc (suc zero)) lt = refl
value_of_digit (suc (suc (suc zero))) lt = refl
value_of_digit (suc (suc (suc (suc zero)))) lt = refl
value_of_digit (suc (suc (suc (suc (suc zero))))) lt = refl
value_of_digit (suc (suc (suc (suc (suc (suc zero)))))) lt = refl
value_of_digit (suc (suc (suc (suc (suc (suc (suc zero))))))) lt = refl
value_of_digit (suc (suc (suc (suc (suc (suc (suc (suc zero)))))))) lt = refl
value_of_digit (suc (suc (suc (suc (suc (suc (suc (suc (suc zero))))))))) lt = refl
value_of_digit (suc (suc (suc (suc (suc (suc (suc (suc (suc (suc zero)))))))))) lt = refl
value_of_digit (suc (suc (suc (suc (suc (suc (suc (suc (suc (suc (suc zero))))))))))) lt = refl
value_of_digit (suc (suc (suc (suc (suc (suc (suc (suc (suc (suc (suc (suc zero)))))))))))) lt = refl
value_of_digit (suc (suc (suc (suc (suc (suc (suc (suc (suc (suc (suc (suc (suc zero))))))))))))) lt = refl
value_of_digit (suc (suc (suc (suc (suc (suc (suc (suc (suc (suc (suc (suc (suc (suc zero)))))))))))))) lt = refl
value_of_digit (suc (suc (suc (suc (suc (suc (suc (suc (suc (suc (suc (suc (suc (suc (suc zero))))))))))))))) lt = refl
value_of_digit (suc (suc (suc (suc (suc (suc (suc (suc (suc (suc (suc (suc (suc (suc (suc (suc n)))))))))))))))) lt = absurd (omega arith)

two_digits : (n b : ℕ) → b < 256 → read (read n (slice_index lower_digits (b / 16))) (slice_index lower_digits (b % 16)) ≡ n * 256 + b
two_digits n b lt = omega (arith, value_of_digit (b / 16) (omega arith), value_of_digit (b % 16) (omega arith))

byte_is : (k n : ℕ) → byte_at k n ≡ n / 256 ^ k % 256
byte_is zero n = ap (λ m. m % 256) (sym (div-one n))
byte_is (suc k) n = refl

-- what is read of a number above its lowest k bytes leads to the number
read_on : (k n above : ℕ) → above ≡ n / 256 ^ k → fold read above (encode_with lower_digits (bytes_high_first k n)) ≡ n
unfolding encode_with
read_on zero n above is = is ∙ div-one n
read_on (suc k) n above is = read_on k n (read (read above (slice_index lower_digits (byte_at k n / 16))) (slice_index lower_digits (byte_at k n % 16))) (joined (byte_at k n) (byte_is k n))
  where
    joined : (b : ℕ) → b ≡ n / 256 ^ k % 256 → read (read above (slice_index lower_digits (b / 16))) (slice_index lower_digits (b % 16)) ≡ n / 256 ^ k
    joined b at =
        let small : b < 256 = let less = mod-lt (n / 256 ^ k) {m = 256} (omega arith) in omega (arith, at, less) in
        let up : above ≡ n / 256 ^ k / 256 = is ∙ ap (λ c. n / c) (pow-suc 256 k) ∙ sym (div-div-eq-div-mul n (256 ^ k) 256) in
        two_digits above b small ∙ (λ i. up i * 256 + at i) ∙ div-add-mod' (n / 256 ^ k) 256

-- zeros at the front say nothing
without : (k : ℕ) (digits : List ℕ) → k ≤ position_or_len (λ d. not (nat_eq d 48)) digits → fold read 0 (drop k digits) ≡ fold read 0 digits
without zero digits le = refl
without (suc k) [] le = refl
without (suc k) (d ∷ digits) le = by (nat_eq d 48) refl (without k digits)
  where
    by : (t : Bool) → nat_eq d 48 ≡ t → (k ≤ position_or_len (λ d. not (nat_eq d 48)) digits → fold read 0 (drop k digits) ≡ fold read 0 digits) → fold read 0 (drop k digits) ≡ fold read (read 0 d) digits
    by true is rest = rest (zero_first is) ∙ ap (λ n. fold read n digits) (sym (ap (read 0) (eqb-true d 48 is)))
      where
        zero_first : nat_eq d 48 ≡ true → k ≤ position_or_len (λ d. not (nat_eq d 48)) digits
        zero_first is = let on : suc k ≤ cond (not (not true)) (1 + position_or_len (λ d. not (nat_eq d 48)) digits) 0 = subst (λ t. suc k ≤ cond (not (not t)) (1 + position_or_len (λ d. not (nat_eq d 48)) digits) 0) is le in omega (arith, on)
    by false is rest = absurd (let on : suc k ≤ cond (not (not false)) (1 + position_or_len (λ d. not (nat_eq d 48)) digits) 0 = subst (λ t. suc k ≤ cond (not (not t)) (1 + position_or_len (λ d. not (nat_eq d 48)) digits) 0) is le in omega (arith, on))

least : (a b : ℕ) → min a b ≤ a
least a b = omega arith

spelled : (n : ℕ) → n < 2 ^ 64 → number_of_digits (hexadecimal n) ≡ n
unfolding hexadecimal
spelled n lt =
    let digits = encode_lower (big_bytes 8 n) in
    without (min (position_or_len (λ d. not (nat_eq d 48)) digits) (length digits - 1)) digits (least _ _)
    ∙ read_on 8 n 0 (sym (div-eq_of_lt lt))

-- ---- which digits

abbrev IsDigit : ℕ → Type 0
IsDigit digit = digit_value digit < 16

is_digit : (i : ℕ) → i < 16 → IsDigit (slice_index lower_digits i)
is_digit i lt = omega (arith, value_of_digit i lt)

all_digits : (k n : ℕ) → AllByRecursion IsDigit (encode_with lower_digits (bytes_high_first k n))
unfolding encode_with
all_digits zero n = tt
all_digits (suc k) n = both (byte_at k n) (byte_is k n) (all_digits k n)
  where
    both : (b : ℕ) → b ≡ n / 256 ^ k % 256 → AllByRecursion IsDigit (encode_with lower_digits (bytes_high_first k n)) → IsDigit (slice_index lower_digits (b / 16)) × (IsDigit (slice_index lower_digits (b % 16)) × AllByRecursion IsDigit (encode_with lower_digits (bytes_high_first k n)))
    both b at others =
        let small : b < 256 = let less = mod-lt (n / 256 ^ k) {m = 256} (omega arith) in omega (arith, at, less) in (is_digit (b / 16) (omega arith), (is_digit (b % 16) (omega arith), others))

digits_of : (n : ℕ) → All IsDigit (hexadecimal n)
unfolding hexadecimal
digits_of n = All-drop IsDigit _ (encode_lower (big_bytes 8 n)) (All-from_recursion IsDigit _ (all_digits 8 n))

-- ---- how many

abbrev not_zero : ℕ → Bool
not_zero d = not (nat_eq d 48)

differs : (d : ℕ) → not (not_zero d) ≡ false → d ≢ 48
differs d h = grind (arith, common_steps)

short_of : (digits : List ℕ) → 0 < length digits → (length (without_zeros digits) ≡ 1) ⊎ (slice_index (without_zeros digits) 0 ≢ 48)
short_of digits some = by (nat_lt (position_or_len not_zero digits) (length digits)) refl
  where
    by : (t : Bool) → nat_lt (position_or_len not_zero digits) (length digits) ≡ t → (length (without_zeros digits) ≡ 1) ⊎ (slice_index (without_zeros digits) 0 ≢ 48)
    by true is =
        let first = position_or_len not_zero digits in
        let lt : first < length digits = ltb-true _ _ is in
        let here : min first (length digits - 1) + 0 ≡ first = omega (arith, lt) in
        inr (λ zero_there. differs (get_or digits first 0) (prefix_len_stops (λ d. not (not_zero d)) digits 0 lt) (ap (λ k. get_or digits k 0) (sym here) ∙ sym (get_or-drop (min first (length digits - 1)) digits 0 0) ∙ zero_there))
    by false is =
        let first = position_or_len not_zero digits in
        let most : length digits ≤ first = ltb-false _ _ is in
        let last : min first (length digits - 1) ≡ length digits - 1 = omega (arith, most) in
        inl (ap (λ k. length (drop k digits)) last ∙ length-drop (length digits - 1) digits ∙ omega (arith, some))

short : (n : ℕ) → (length (hexadecimal n) ≡ 1) ⊎ (slice_index (hexadecimal n) 0 ≢ 48)
unfolding hexadecimal encode_with
short n = short_of (encode_lower (big_bytes 8 n)) (omega arith)

pub digits_spell : DigitsSpellNumbers
digits_spell = record { number = spelled; digits = digits_of; short = short }
