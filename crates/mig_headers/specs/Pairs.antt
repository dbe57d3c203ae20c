-- Pairs of texts: key, zero, value, zero, one pair after another (libxl migration stream, "EMULATOR_XENSTORE_DATA").
-- In canonical form the keys are distinct and ascend by bytes.
use Rattle.std.specs.Prelude.{◌≡◌, ℕ, ◌<◌, Bool, true, false, List, [], ◌∷◌, ◌++◌, length, map, ◌==◌, ◌&&◌, ◌||◌, nat_le, ◌↔◌, IsTrue}
use Rattle.std.specs.List.{All, flat_map, list_all, slice_split}
use Rattle.std.specs.List.Sorted.{IsStrictlySortedBy}
use Rattle.std.specs.Cmp.Lexicographic.{slice_cmp}
use Rattle.std.specs.Ordering.{nat_cmp, is_lt}

pub record Pair : Type 0 where
  pub key : List ℕ
  pub value : List ℕ

-- ASCII digits, letters and -/_@
abbrev pub is_key_byte : ℕ → Bool
is_key_byte b =
    (nat_le 48 b && nat_le b 57) || (nat_le 65 b && nat_le b 90) || (nat_le 97 b && nat_le b 122)
    || (b == 45) || (b == 47) || (b == 95) || (b == 64)

pub record IsPair (p : Pair) : Type 0 where
  pub some : 0 < length p.key
  pub key : All (λ b. is_key_byte b ≡ true) p.key
  pub value : All (λ b. 0 < b) p.value

abbrev pub text_of_pair : Pair → List ℕ
text_of_pair p = p.key ++ 0 ∷ (p.value ++ 0 ∷ [])

-- by bytes, each key is below those behind it
abbrev pub AreRising : List Pair → Type 0
AreRising pairs = IsStrictlySortedBy (slice_cmp nat_cmp) (map (λ p. p.key) pairs)

-- no bytes at all are no pairs
pub record AreCanonicalPairs (bytes : List ℕ) : Type 0 where
  pub pairs : List Pair
  pub each : All IsPair pairs
  pub rising : AreRising pairs
  pub spelled : flat_map text_of_pair pairs ≡ bytes

-- ---- the same, computed

-- what stands between zeros; the last text is what is behind the last zero
abbrev pub texts_in : List ℕ → List (List ℕ)
texts_in bytes = slice_split (λ b. b == 0) bytes

-- a key that may come behind this one
abbrev pub is_next_key : List ℕ → List ℕ → Bool
is_next_key last key = list_all is_key_byte key && is_lt (slice_cmp nat_cmp last key)

-- texts are keys and values in turn, with keys that rise from the last one on, and then nothing
abbrev pub are_rising_texts : List ℕ → List (List ℕ) → Bool
are_rising_texts last [] = false
are_rising_texts last (rest ∷ []) = length rest == 0
are_rising_texts last (key ∷ value ∷ texts) = is_next_key last key && are_rising_texts key texts

-- the empty text is below every key
unfoldable pub are_canonical_pairs : List ℕ → Bool
are_canonical_pairs bytes = are_rising_texts [] (texts_in bytes)

abbrev pub CanonicalPairsAreComputed : Type 0
CanonicalPairsAreComputed = (bytes : List ℕ) → IsTrue (are_canonical_pairs bytes) ↔ AreCanonicalPairs bytes
