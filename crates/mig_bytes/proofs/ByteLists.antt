-- Lists of bytes, and the bytes of a number that stands in one.
use Rattle.mig_bytes.proofs.Common.{◌≡◌, ℕ, zero, suc, ◌+◌, ◌<◌, ◌≤◌, List, [], ◌∷◌, ◌++◌, length, take, drop, get_or, sym, subst, ◌∙◌, arith, take-append-drop, length-drop, little_bytes, ◌^◌, AllByRecursion, little_number}
use Rattle.std.specs.Int.{w32, w64, from_le_bytes}
use Rattle.std.proofs.lemmas.List.{length-take-le}
use Rattle.std.proofs.lemmas.Nat.{le_bytes_4, le_bytes_8}
use Rattle.byteorder.specs.Numbers.{little_from-take, little_from-lt}
use Rattle.mig_bytes.specs.Fields.{le32, le64}

abbrev pub Bytes : List ℕ → Type 0
Bytes xs = AllByRecursion (λ b. b < 256) xs

both_bytes : (xs ys : List ℕ) → Bytes (xs ++ ys) → Bytes xs × Bytes ys
both_bytes [] ys h = (tt, h)
both_bytes (x ∷ xs) ys h = let more = both_bytes xs ys h.1 in ((h.0, more.0), more.1)

-- a front of bytes, and what follows it
pub bytes_front : (input front rest : List ℕ) → input ≡ front ++ rest → Bytes input → Bytes front
bytes_front input front rest whole all = (both_bytes front rest (subst Bytes whole all)).0

pub bytes_back : (input front rest : List ℕ) → input ≡ front ++ rest → Bytes input → Bytes rest
bytes_back input front rest whole all = (both_bytes front rest (subst Bytes whole all)).1

pub bytes_drop : (n : ℕ) (xs : List ℕ) → Bytes xs → Bytes (drop n xs)
bytes_drop zero xs h = h
bytes_drop (suc n) [] h = tt
bytes_drop (suc n) (x ∷ xs) h = bytes_drop n xs h.1

pub below : (xs : List ℕ) (i : ℕ) → Bytes xs → get_or xs i 0 < 256
below [] i h = omega arith
below (x ∷ xs) zero h = h.0
below (x ∷ xs) (suc i) h = below xs i h.1

-- numbers that are all below 256 are bytes
pub bytes_from : (xs : List ℕ) → ((i : ℕ) → get_or xs i 0 < 256) → Bytes xs
bytes_from [] h = tt
bytes_from (x ∷ xs) h = (h 0, bytes_from xs (λ i. h (suc i)))

-- ---- fields

module _ (n at : ℕ) (xs : List ℕ) (all : Bytes xs) (long : at + n ≤ length xs) where
  pub field_size : length (take n (drop at xs)) ≡ n
  field_size = length-take-le n (drop at xs) (omega (arith, long, length-drop at xs))

  pub field_below : (i : ℕ) → get_or (take n (drop at xs)) i 0 < 256
  field_below i = below (take n (drop at xs)) i (bytes_front (drop at xs) (take n (drop at xs)) (drop n (drop at xs)) (sym (take-append-drop n (drop at xs))) (bytes_drop at xs all))

-- the bytes of a field
pub word_back : (at : ℕ) (xs : List ℕ) → Bytes xs → at + 4 ≤ length xs → little_bytes 4 (le32 xs at) ≡ take 4 (drop at xs)
unfolding le32
word_back at xs all long =
    le_bytes_4 (take 4 (drop at xs)) (le32 xs at) (field_size 4 at xs all long) (field_below 4 at xs all long) (sym (little_from-take 0 4 4 (drop at xs) (omega arith)) ∙ sum (take 4 (drop at xs)))
  where
    sum : (bs : List ℕ) → little_number 4 bs ≡ from_le_bytes w32 bs
    sum bs = omega arith

pub long_back : (at : ℕ) (xs : List ℕ) → Bytes xs → at + 8 ≤ length xs → little_bytes 8 (le64 xs at) ≡ take 8 (drop at xs)
unfolding le64
long_back at xs all long =
    le_bytes_8 (take 8 (drop at xs)) (le64 xs at) (field_size 8 at xs all long) (field_below 8 at xs all long) (sym (little_from-take 0 8 8 (drop at xs) (omega arith)) ∙ sum (take 8 (drop at xs)))
  where
    sum : (bs : List ℕ) → little_number 8 bs ≡ from_le_bytes w64 bs
    sum bs = omega arith

-- a number of bytes fits
pub word_below : (at : ℕ) (xs : List ℕ) → Bytes xs → le32 xs at < 2 ^ 32
unfolding le32
word_below at xs all = little_from-lt 0 4 (drop at xs) (λ k. below (drop at xs) k (bytes_drop at xs all))

pub long_below : (at : ℕ) (xs : List ℕ) → Bytes xs → le64 xs at < 2 ^ 64
unfolding le64
long_below at xs all = little_from-lt 0 8 (drop at xs) (λ k. below (drop at xs) k (bytes_drop at xs all))
