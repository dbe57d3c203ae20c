-- The bytes of a field are those of its number.
use Rattle.mig_image.proofs.Common.{◌≡◌, ℕ, ◌+◌, ◌≤◌, List, ◌++◌, length, take, drop, sym, ap, ◌∙◌, arith, take-append-drop, drop-drop, length-drop, append_assoc, take_all, little_bytes, big_number, big_from-take, Bytes, field_size, field_below, word_back, long_back, GuestImageVersion, One, Two, image_name, name_number, be_bytes_8}
use Rattle.std.specs.Int.{w64, from_be_bytes, to_be_bytes}
use Rattle.mig_bytes.specs.Fields.{le32, le64, be64}

first_field : (n : ℕ) (xs : List ℕ) → Bytes xs → 8 ≤ length xs → be64 xs 0 ≡ n → to_be_bytes w64 n ≡ take 8 xs
unfolding be64
first_field n xs all long is =
    be_bytes_8 (take 8 xs) n (field_size 8 0 xs all long) (field_below 8 0 xs all long) (sym is ∙ sym (big_from-take 0 8 8 xs (omega arith)) ∙ sum (take 8 xs))
  where
    sum : (bs : List ℕ) → big_number 8 bs ≡ from_be_bytes w64 bs
    sum bs = omega arith

name_back : (version : GuestImageVersion) (xs : List ℕ) → Bytes xs → 8 ≤ length xs → be64 xs 0 ≡ name_number version → image_name version ≡ take 8 xs
name_back One xs all long is = first_field (name_number One) xs all long is
name_back Two xs all long is = first_field (name_number Two) xs all long is

-- a field, and what stands behind it
field_then : (n at : ℕ) (xs field tail : List ℕ) → field ≡ take n (drop at xs) → tail ≡ drop (at + n) xs → field ++ tail ≡ drop at xs
field_then n at xs field tail a b = ap (λ l. l ++ tail) a ∙ ap (λ l. take n (drop at xs) ++ l) (b ∙ sym (drop-drop n at xs)) ∙ take-append-drop n (drop at xs)

-- the last of the elements
pub last : (n at : ℕ) (xs : List ℕ) → length xs ≡ at + n → take n (drop at xs) ≡ drop at xs
last n at xs size = take_all n (drop at xs) (omega (arith, size, length-drop at xs))

module _ (xs : List ℕ) (all : Bytes xs) where
  pub name_then : {tail : List ℕ} (version : GuestImageVersion) → 8 ≤ length xs → be64 xs 0 ≡ name_number version → tail ≡ drop 8 xs → image_name version ++ tail ≡ xs
  name_then {tail} version long is more = field_then 8 0 xs (image_name version) tail (name_back version xs all long is) more

  pub word_then : {n : ℕ} {tail : List ℕ} (at : ℕ) → at + 4 ≤ length xs → n ≡ le32 xs at → tail ≡ drop (at + 4) xs → little_bytes 4 n ++ tail ≡ drop at xs
  word_then {n} {tail} at long is more = field_then 4 at xs (little_bytes 4 n) tail (ap (little_bytes 4) is ∙ word_back at xs all long) more

  pub long_then : {n : ℕ} {tail : List ℕ} (at : ℕ) → at + 8 ≤ length xs → n ≡ le64 xs at → tail ≡ drop (at + 8) xs → little_bytes 8 n ++ tail ≡ drop at xs
  long_then {n} {tail} at long is more = field_then 8 at xs (little_bytes 8 n) tail (ap (little_bytes 8) is ∙ long_back at xs all long) more

  pub word_last : {n : ℕ} (at : ℕ) → length xs ≡ at + 4 → n ≡ le32 xs at → little_bytes 4 n ≡ drop at xs
  word_last at size is = ap (little_bytes 4) is ∙ word_back at xs all (omega (arith, size)) ∙ last 4 at xs size

  pub long_last : {n : ℕ} (at : ℕ) → length xs ≡ at + 8 → n ≡ le64 xs at → little_bytes 8 n ≡ drop at xs
  long_last at size is = ap (little_bytes 8) is ∙ long_back at xs all (omega (arith, size)) ∙ last 8 at xs size

-- two texts, and what follows them
pub regroup : (i mid rest a b : List ℕ) → i ≡ a ++ mid → mid ≡ b ++ rest → i ≡ (a ++ b) ++ rest
regroup i mid rest a b first second = first ∙ ap (λ l. a ++ l) second ∙ sym (append_assoc a b rest)
