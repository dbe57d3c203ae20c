-- What pairs of texts say: a finite map from keys to values.
use Rattle.std.specs.Prelude.{◌≡◌, ◌<◌, ℕ, List, [], ◌∷◌, ◌++◌, length, fold, map, Option, Some, None, ◌↔◌, if◌then◌else◌}
use Rattle.mig_policy.specs.Common.{All, flat_map, Pair, IsPair, AreCanonicalPairs, text_of_pair, texts_in, PartKey, PartMap}
use Rattle.std.specs.Cmp.Lexicographic.{slice_cmp}
use Rattle.std.specs.Option.{option_or}
use Rattle.std.specs.Ordering.{nat_cmp}
use Rattle.std.specs.FinMap as maps
use Rattle.std.specs.Str.{bytes_eq}
use Rattle.std.specs.Coded.{Coded, coded_ℕ, coded_list}
use Rattle.std.specs.declared.vec.Vec.{Vec}
use Rattle.mig_policy.specs.PairFaults.{SpellPairs, pairs_fault}

-- values by their keys, in the order of the keys' bytes
abbrev pub PairMap : Type 0
PairMap = maps.FinMap (slice_cmp nat_cmp) (List ℕ)

abbrev pub pairs_code : Coded PairMap
pairs_code = maps.code (coded_list coded_ℕ) (coded_list coded_ℕ)

-- a pair set, in place of the one of its key
abbrev pub put_pair : PairMap → Pair → PairMap
put_pair m p = maps.insert m p.key p.value

-- pairs set one after another: of each key the last decides
abbrev pub put_pairs : PairMap → List Pair → PairMap
put_pairs m pairs = fold put_pair m pairs

-- of all these pairs the rest isn't set yet
pub record AreSetBefore (before after : PairMap) (rest all : List Pair) : Type 0 where
  pub done : List Pair
  pub whole : done ++ rest ≡ all
  pub set : after ≡ put_pairs before done

-- of these pairs some are set, from the first on, and no others
abbrev pub AreBegun : PairMap → PairMap → List Pair → Type 0
AreBegun before after all = (rest : List Pair) × AreSetBefore before after rest all

abbrev pub pair_of : List ℕ × List ℕ → Pair
pair_of e = record { key = e.0; value = e.1 }

abbrev pub text_of_entry : List ℕ × List ℕ → List ℕ
text_of_entry e = text_of_pair (pair_of e)

-- a map is spelled as its pairs in ascending order of the keys
abbrev pub text_of_map : PairMap → List ℕ
text_of_map m = flat_map text_of_entry (maps.entries m)

-- each key and value is such as a pair may have
abbrev pub IsOfPairs : PairMap → Type 0
IsOfPairs m = All IsPair (map pair_of (maps.entries m))

-- ---- a map as it is kept

-- a key and a value, wherever they lie
abbrev pub shown : {Y Z : Type 0} → Vec ℕ Y × Vec ℕ Z → List ℕ × List ℕ
shown e = (e.0.items, e.1.items)

-- the map that a list of keys and values in order shows
abbrev pub pairs_seen : {Y Z : Type 0} → List (Vec ℕ Y × Vec ℕ Z) → PairMap
pairs_seen es = maps.from_sorted (map shown es)

-- ---- the pairs that bytes spell

-- keys and values in turn; what is behind the last zero is no pair
abbrev pub pairs_of : List (List ℕ) → List Pair
pairs_of [] = []
pairs_of (rest ∷ []) = []
pairs_of (key ∷ rest ∷ []) = []
pairs_of (key ∷ value ∷ next ∷ texts) = record { key = key; value = value } ∷ pairs_of (next ∷ texts)

unfoldable pub pairs_in : List ℕ → List Pair
pairs_in bytes = pairs_of (texts_in bytes)

abbrev pub map_of : List ℕ → PairMap
map_of bytes = put_pairs maps.empty (pairs_in bytes)

-- bytes without fault spell pairs, these and no others
abbrev pub PairsAreRead : Type 0
PairsAreRead = (bytes : List ℕ) (pairs : List Pair) → ((pairs_fault bytes ≡ None) × (pairs_in bytes ≡ pairs)) ↔ SpellPairs bytes pairs

-- ---- pairs added to those that a part has

abbrev pub merged : List ℕ → List ℕ → PairMap
merged part bytes = put_pairs (map_of part) (pairs_in bytes)

-- no part says no pairs
abbrev pub part_bytes : Option (List ℕ) → List ℕ
part_bytes None = []
part_bytes (Some part) = part

-- an emulator's pairs, by its id and index
abbrev pub pairs_key : ℕ → ℕ → PartKey
pairs_key id index = record { code = 258; key1 = id; key2 = index }

-- the map that the part of an emulator's pairs stands for, with these added
abbrev pub merged_at : PartMap → PartKey → List ℕ → PairMap
merged_at parts key bytes = merged (part_bytes (maps.get parts key)) bytes

-- no pairs set nothing
abbrev pub with_pairs : PartMap → PartKey → List ℕ → PartMap
with_pairs parts key [] = parts
with_pairs parts key (b ∷ bytes) = maps.insert parts key (text_of_map (merged_at parts key (b ∷ bytes)))

-- ---- values in the words of the format

-- the value of the last pair with this key
abbrev pub last_pair_value : List ℕ → List Pair → Option (List ℕ)
last_pair_value k [] = None
last_pair_value k (p ∷ ps) = option_or (last_pair_value k ps) (if bytes_eq p.key k then Some p.value else None)

-- the value of a key in a part that has pairs
abbrev pub value_in_part : PartMap → PartKey → List ℕ → Option (List ℕ)
value_in_part parts key k = last_pair_value k (pairs_in (part_bytes (maps.get parts key)))

-- ---- laws

-- where pairs are added, a key has the value of the last of them that has this key, or else the one that it had
pub record AddedPairsDecide : Type 0 where
  pub map : (m : PairMap) (pairs : List Pair) (k : List ℕ) → maps.get (put_pairs m pairs) k ≡ option_or (last_pair_value k pairs) (maps.get m k)
  pub part : (parts : PartMap) (key : PartKey) (bytes : List ℕ) (pairs : List Pair) (k : List ℕ) → AreCanonicalPairs (part_bytes (maps.get parts key)) → SpellPairs bytes pairs
      → value_in_part (with_pairs parts key bytes) key k ≡ option_or (last_pair_value k pairs) (value_in_part parts key k)
  pub others : (parts : PartMap) (key other : PartKey) (bytes : List ℕ) → (other ≡ key → ⊥) → maps.get (with_pairs parts key bytes) other ≡ maps.get parts other

-- canonical pairs are exactly the texts of the maps of pairs, and such a text says its map
pub record TextsAreCanonical : Type 0 where
  pub canonical : (pairs : List Pair) → All IsPair pairs → AreCanonicalPairs (text_of_map (put_pairs maps.empty pairs))
  pub again : (bytes : List ℕ) → AreCanonicalPairs bytes → text_of_map (map_of bytes) ≡ bytes
  pub merged : (part bytes : List ℕ) → AreCanonicalPairs part → pairs_fault bytes ≡ None → AreCanonicalPairs (text_of_map (merged part bytes))
  pub read : (m : PairMap) → IsOfPairs m → map_of (text_of_map m) ≡ m

-- a map of pairs stays one where bytes without fault are added, and its text is canonical
pub record MapsAreOfPairs : Type 0 where
  pub none : IsOfPairs maps.empty
  pub empty : text_of_map maps.empty ≡ []
  pub spelled : (bytes : List ℕ) → AreCanonicalPairs bytes → IsOfPairs (map_of bytes)
  pub added : (m : PairMap) (bytes : List ℕ) → IsOfPairs m → pairs_fault bytes ≡ None → IsOfPairs (put_pairs m (pairs_in bytes))
  pub text : (m : PairMap) → IsOfPairs m → AreCanonicalPairs (text_of_map m)

-- where there are bytes there are pairs, and so a text
pub record SomeBytesAreSomePairs : Type 0 where
  pub sound : (bytes : List ℕ) → AreCanonicalPairs bytes → pairs_fault bytes ≡ None
  pub some : (bytes : List ℕ) → pairs_fault bytes ≡ None → 0 < length bytes → 0 < length (pairs_in bytes)
  pub text : (m : PairMap) (bytes : List ℕ) → pairs_fault bytes ≡ None → 0 < length bytes → 0 < length (text_of_map (put_pairs m (pairs_in bytes)))
