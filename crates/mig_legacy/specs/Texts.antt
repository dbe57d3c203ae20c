-- The pairs of texts that tell of a device model's memory (Xen's libxl, "physmap" in the device model's store).
use Rattle.std.specs.Prelude.{◌≡◌, ◌<◌, ◌⊎◌, ◌≢◌, ℕ, ◌+◌, ◌-◌, ◌*◌, ◌^◌, fold, slice_index, List, [], ◌∷◌, ◌++◌, length, drop, Option, Some, None, codes, ◌==◌, not, min}
use Rattle.mig_legacy.specs.Common.{All, position_or_len, flat_map, Pair, text_of_pair}
use Rattle.byteorder.specs.Endian.{big_bytes}
use Rattle.hex.specs.Hex.{encode_lower}
use Rattle.mig_legacy.specs.Toolstack.{Physmap}

-- the digits without the zeros before the first that isn't 0, or the last digit alone
abbrev pub without_zeros : List ℕ → List ℕ
without_zeros digits = drop (min (position_or_len (λ d. not (d == 48)) digits) (length digits - 1)) digits

-- a number of 8 bytes in lower-case hexadecimal digits
unfoldable pub hexadecimal : ℕ → List ℕ
hexadecimal n = without_zeros (encode_lower (big_bytes 8 n))

-- the value of a digit: its place among the sixteen
abbrev pub digit_value : ℕ → ℕ
digit_value digit = position_or_len (λ d. d == digit) (codes "0123456789abcdef")

-- the number that digits spell, the most significant first: each digit joins 16 times what is read before it
abbrev pub number_of_digits : List ℕ → ℕ
number_of_digits digits = fold (λ n digit. 16 * n + digit_value digit) 0 digits

-- a number of 8 bytes is the one that its digits spell; each of them is one of the sixteen, and the first isn't 0 where
-- there are others
pub record DigitsSpellNumbers : Type 0 where
  pub number : (n : ℕ) → n < 2 ^ 64 → number_of_digits (hexadecimal n) ≡ n
  pub digits : (n : ℕ) → All (λ digit. digit_value digit < 16) (hexadecimal n)
  pub short : (n : ℕ) → (length (hexadecimal n) ≡ 1) ⊎ (slice_index (hexadecimal n) 0 ≢ 48)

-- a field of the memory that the guest sees here
abbrev pub physmap_pair : ℕ → List ℕ → List ℕ → Pair
physmap_pair phys field value = record { key = codes "physmap/" ++ (hexadecimal phys ++ (codes "/" ++ field)); value = value }

abbrev pub name_pairs : ℕ → Option (List ℕ) → List Pair
name_pairs phys None = []
name_pairs phys (Some name) = physmap_pair phys (codes "name") name ∷ []

-- the pairs of an entry
abbrev pub pairs_of_physmap : Physmap → List Pair
pairs_of_physmap e = physmap_pair e.phys (codes "start_addr") (hexadecimal e.start) ∷ physmap_pair e.phys (codes "size") (hexadecimal e.size) ∷ name_pairs e.phys e.name

-- the bytes that spell the pairs of entries
abbrev pub text_of_physmaps : List Physmap → List ℕ
text_of_physmaps es = flat_map (λ e. flat_map text_of_pair (pairs_of_physmap e)) es
