-- Bytes are cut at the first that has a value.
use Rattle.mig_machine_script.proofs.Common.{◌≡◌, ◌≢◌, ℕ, ◌+◌, ◌-◌, ◌<◌, ◌≤◌, Bool, false, List, [], ◌∷◌, ◌++◌, length, take, drop, get_or, nat_eq, cond, Some, None, refl, sym, ap, ◌∙◌, arith, inl, inr, All, position, common_steps, BeginsWithText, position_or_len, slice_split, get_or-take, slice_split_none, slice_split_first, fails_before_first, split_at_first, passes_at_first}
use Rattle.std.proofs.Common.{eqb-true, nat_lt}

abbrev pub is_it : ℕ → ℕ → Bool
is_it c b = nat_eq b c

nowhere : (n m : ℕ) → cond (nat_lt n m) (Some n) None ≡ None → m ≤ n
nowhere n m h = grind (arith, common_steps)

somewhere : (n m i : ℕ) → cond (nat_lt n m) (Some n) None ≡ Some i → (n < m) × (n ≡ i)
somewhere n m i h = grind (arith, common_steps)

none_is : (c : ℕ) (bytes : List ℕ) → None ≡ position (is_it c) bytes → All (λ b. is_it c b ≡ false) bytes
none_is c bytes h k d less = fails_before_first (is_it c) bytes k d (omega (arith, nowhere (position_or_len (is_it c) bytes) (length bytes) (sym h), less))

pub uncut : (c : ℕ) (bytes : List ℕ) → None ≡ position (is_it c) bytes → slice_split (is_it c) bytes ≡ bytes ∷ []
uncut c bytes h = slice_split_none (is_it c) bytes (none_is c bytes h)

all_behind : (bytes : List ℕ) (n : ℕ) → drop n bytes ≡ take (length bytes - n) (drop n bytes)
all_behind bytes n = grind (arith, common_steps)

-- what stands behind the first one
abbrev pub behind : List ℕ → ℕ → List ℕ
behind bytes end = take (length bytes - (end + 1)) (drop (end + 1) bytes)

pub cut : (c : ℕ) (bytes : List ℕ) (end : ℕ) → Some end ≡ position (is_it c) bytes → slice_split (is_it c) bytes ≡ take end bytes ∷ slice_split (is_it c) (behind bytes end)
cut c bytes end h =
    let (less, at) = somewhere (position_or_len (is_it c) bytes) (length bytes) end (sym h) in
    slice_split_first (is_it c) bytes 0 less ∙ ap (λ n. take n bytes ∷ slice_split (is_it c) (drop (n + 1) bytes)) at
    ∙ ap (λ t. take end bytes ∷ slice_split (is_it c) t) (all_behind bytes (end + 1))

pub parts : (c : ℕ) (bytes : List ℕ) (end : ℕ) → Some end ≡ position (is_it c) bytes → bytes ≡ take end bytes ++ c ∷ behind bytes end
parts c bytes end h =
    let (less, at) = somewhere (position_or_len (is_it c) bytes) (length bytes) end (sym h) in
    split_at_first (is_it c) bytes 0 less ∙ ap (λ b. take (position_or_len (is_it c) bytes) bytes ++ b ∷ drop (position_or_len (is_it c) bytes + 1) bytes) (eqb-true _ c (passes_at_first (is_it c) bytes 0 less))
    ∙ ap (λ n. take n bytes ++ c ∷ drop (n + 1) bytes) at ∙ ap (λ t. take end bytes ++ c ∷ t) (all_behind bytes (end + 1))

-- ---- the first line

other : (b : ℕ) → is_it 10 b ≡ false → b ≢ 10
other b h e = grind (arith, common_steps)

length_front : (end : ℕ) (bytes : List ℕ) → length (take end bytes) ≤ end
length_front end bytes = grind (arith, common_steps)

pub cut_line : (bytes : List ℕ) (end : ℕ) → Some end ≡ position (is_it 10) bytes → BeginsWithText bytes (take end bytes) (behind bytes end)
cut_line bytes end h =
    let (less, at) = somewhere (position_or_len (is_it 10) bytes) (length bytes) end (sym h) in
    record {
      one = λ k d few.
          let small : k < end = omega (arith, length_front end bytes) in
          let first : k < position_or_len (is_it 10) bytes = omega arith in
          let fails : is_it 10 (get_or (take end bytes) k d) ≡ false = ap (is_it 10) (get_or-take end bytes k d small) ∙ fails_before_first (is_it 10) bytes k d first in
          other (get_or (take end bytes) k d) fails;
      ended = inl (parts 10 bytes end h);
    }

nothing : (n : ℕ) (bytes : List ℕ) → take (n - n) (drop n bytes) ≡ []
nothing n bytes = grind (arith, common_steps)

pub last_line : (bytes : List ℕ) → 0 < length bytes → None ≡ position (is_it 10) bytes → BeginsWithText bytes bytes (take (length bytes - length bytes) (drop (length bytes) bytes))
last_line bytes some h = record {
  one = λ k d less. other (get_or bytes k d) (none_is 10 bytes h k d less);
  ended = inr (some, refl, nothing (length bytes) bytes);
}
