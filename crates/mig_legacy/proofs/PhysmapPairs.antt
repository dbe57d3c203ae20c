-- The pairs of the data of a toolstack are pairs that a store may have, and their text spells them.
use Rattle.mig_legacy.proofs.Common.{flat_map-append, big_bytes}
use Rattle.mig_legacy.proofs.ChunkCommon.{◌≡◌, ℕ, ◌<◌, ◌/◌, ◌%◌, true, false, List, [], ◌∷◌, ◌++◌, Option, Some, None, refl, ap, ◌∙◌, arith, length-append, codes, AllByRecursion, flat_map, All-from_recursion, recursion_from_All, All-get_or, All-drop, IsPair, is_key_byte, text_of_pair, SpellPairs, toolstack, toolstack_fault, hexadecimal, physmap_pair, name_pairs, pairs_of_physmap, text_of_physmaps, Physmap, IsName, ArePhysmaps, IsToolstack}
use Rattle.std.specs.Prelude.{slice_index, zero, suc}
use Rattle.hex.specs.Hex.{lower_digits, encode_with, encode_lower}
use Rattle.mig_legacy.proofs.Spelling.{toolstack_spelled}

-- ---- digits

abbrev IsKeyByte : ℕ → Type 0
IsKeyByte b = is_key_byte b ≡ true

abbrev Keyed : List ℕ → Type 0
Keyed = AllByRecursion IsKeyByte

digits_fine : Keyed lower_digits
digits_fine = (refl, (refl, (refl, (refl, (refl, (refl, (refl, (refl, (refl, (refl, (refl, (refl, (refl, (refl, (refl, (refl, tt))))))))))))))))

digit_at : (i : ℕ) → i < 16 → IsKeyByte (slice_index lower_digits i)
digit_at i lt = All-get_or IsKeyByte lower_digits i 0 lt (All-from_recursion IsKeyByte lower_digits digits_fine)

encoded : (bytes : List ℕ) → AllByRecursion (λ b. b < 256) bytes → Keyed (encode_with lower_digits bytes)
unfolding encode_with
encoded [] are = tt
encoded (b ∷ bytes) are = (digit_at (b / 16) (omega (arith, are.0)), (digit_at (b % 16) (omega arith), encoded bytes are.1))

both : {X : Type 0} (P : X → Type 0) (xs ys : List X) → AllByRecursion P xs → AllByRecursion P ys → AllByRecursion P (xs ++ ys)
both P [] ys h k = k
both P (x ∷ xs) ys h k = (h.0, both P xs ys h.1 k)

big_bytes_are : (n : ℕ) → AllByRecursion (λ b. b < 256) (big_bytes 8 n)
big_bytes_are n = (omega arith, (omega arith, (omega arith, (omega arith, (omega arith, (omega arith, (omega arith, (omega arith, tt))))))))

number_keyed : (n : ℕ) → Keyed (hexadecimal n)
unfolding hexadecimal
number_keyed n = recursion_from_All IsKeyByte _ (All-drop IsKeyByte _ (encode_lower (big_bytes 8 n)) (All-from_recursion IsKeyByte _ (encoded (big_bytes 8 n) (big_bytes_are n))))

-- a byte of a key isn't zero
some_byte : (b : ℕ) → IsKeyByte b → 0 < b
some_byte zero h = let no : false ≡ true = h in cc
some_byte (suc b) h = omega arith

some_bytes : (bytes : List ℕ) → Keyed bytes → AllByRecursion (λ b. 0 < b) bytes
some_bytes [] h = tt
some_bytes (b ∷ bytes) h = (some_byte b h.0, some_bytes bytes h.1)

-- ---- pairs

is_pair : (phys : ℕ) (field value : List ℕ) → Keyed field → AllByRecursion (λ b. 0 < b) value → IsPair (physmap_pair phys field value)
is_pair phys field value keyed some = record {
  some = omega (arith, length-append (codes "physmap/") (hexadecimal phys ++ (codes "/" ++ field)));
  key = All-from_recursion IsKeyByte (codes "physmap/" ++ (hexadecimal phys ++ (codes "/" ++ field))) (both IsKeyByte (codes "physmap/") (hexadecimal phys ++ (codes "/" ++ field)) (refl, (refl, (refl, (refl, (refl, (refl, (refl, (refl, tt)))))))) (both IsKeyByte (hexadecimal phys) (codes "/" ++ field) (number_keyed phys) (refl, keyed)));
  value = All-from_recursion (λ b. 0 < b) value some;
}

numbered : (phys : ℕ) (field : List ℕ) (n : ℕ) → Keyed field → IsPair (physmap_pair phys field (hexadecimal n))
numbered phys field n keyed = is_pair phys field (hexadecimal n) keyed (some_bytes (hexadecimal n) (number_keyed n))

named : (phys : ℕ) (name : Option (List ℕ)) → IsName name → AllByRecursion IsPair (name_pairs phys name)
named phys None is = tt
named phys (Some name) is = (is_pair phys (codes "name") name (refl, (refl, (refl, (refl, tt)))) (recursion_from_All (λ b. 0 < b) name is), tt)

entry_pairs : (e : Physmap) → IsName e.name → AllByRecursion IsPair (pairs_of_physmap e)
entry_pairs e is = (
  numbered e.phys (codes "start_addr") e.start (refl, (refl, (refl, (refl, (refl, (refl, (refl, (refl, (refl, (refl, tt)))))))))),
  (numbered e.phys (codes "size") e.size (refl, (refl, (refl, (refl, tt)))), named e.phys e.name is),
)

all_pairs : (bytes : List ℕ) (es : List Physmap) → ArePhysmaps bytes es → AllByRecursion IsPair (flat_map pairs_of_physmap es)
all_pairs bytes [] are = tt
all_pairs bytes (e ∷ es) (head, pad, rest, whole, is, name, len, others) = both IsPair (pairs_of_physmap e) (flat_map pairs_of_physmap es) (entry_pairs e name) (all_pairs rest es others)

text_is : (es : List Physmap) → flat_map text_of_pair (flat_map pairs_of_physmap es) ≡ text_of_physmaps es
text_is [] = refl
text_is (e ∷ es) = flat_map-append text_of_pair (pairs_of_physmap e) (flat_map pairs_of_physmap es) ∙ ap (λ t. flat_map text_of_pair (pairs_of_physmap e) ++ t) (text_is es)

pub physmaps_spell : (body : List ℕ) → toolstack_fault body ≡ None → SpellPairs (text_of_physmaps (toolstack body)) (flat_map pairs_of_physmap (toolstack body))
physmaps_spell body none =
    let is : IsToolstack body (toolstack body) = (toolstack_spelled body).faultless none in
    record { each = All-from_recursion IsPair _ (all_pairs is.rest (toolstack body) is.each); spelled = text_is (toolstack body) }
