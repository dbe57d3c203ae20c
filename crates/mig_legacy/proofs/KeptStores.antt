-- The pairs of a toolstack's data are of bytes where the data are, and leave emulators well formed.
use Rattle.mig_legacy.proofs.Common.{◌≡◌, ℕ, ◌<◌, ◌≤◌, true, List, [], ◌∷◌, ◌++◌, Option, Some, None, refl, sym, ap, subst, arith, get_or, eqb-true, common_steps, flat_map, All, All-nil, All-cons, All-append, All-head, All-tail, AreBytes, Pair, pairs_kept, EmulatorsOf, add_pairs, AreEmulators, most_pairs, spelled_with, store_key, pairs_of_physmap, Physmap, IsToolstack, passes_at_first, ◌==◌, spelled_read, bytes_front, bytes_back}
use Rattle.std.specs.List.{AllByRecursion}
use Rattle.std.specs.Prelude.{codes}
use Rattle.std.proofs.lemmas.List.Elements.{All-from_recursion, All-get_or, All-weaker}
use Rattle.mig_headers.specs.Pairs.{IsPair, is_key_byte, text_of_pair}
use Rattle.mig_legacy.specs.Texts.{digit_value, hexadecimal, name_pairs, physmap_pair}
use Rattle.mig_legacy.specs.Toolstack.{ArePhysmaps, name_bytes}
use Rattle.mig_legacy.proofs.Digits.{digits_spell}
use Rattle.mig_legacy.proofs.PhysmapPairs.{physmaps_spell}
use Rattle.mig_legacy.proofs.Spelling.{toolstack_spelled}

abbrev IsByte : ℕ → Type 0
IsByte b = b < 256

-- ---- digits

abbrev all_digits : List ℕ
all_digits = codes "0123456789abcdef"

digits_small : AllByRecursion IsByte all_digits
digits_small =
    (omega arith, (omega arith, (omega arith, (omega arith, (omega arith, (omega arith, (omega arith, (omega arith, (omega arith, (omega arith, (omega arith, (omega arith, (omega arith, (omega arith, (omega arith, (omega arith, tt))))))))))))))))

digit_small : (d : ℕ) → digit_value d < 16 → d < 256
digit_small d less =
    let at = passes_at_first (λ c. c == d) all_digits 0 less in
    subst IsByte (eqb-true (get_or all_digits (digit_value d) 0) d at) (All-get_or IsByte all_digits (digit_value d) 0 less (All-from_recursion IsByte all_digits digits_small))

number_bytes : (n : ℕ) → AreBytes (hexadecimal n)
number_bytes n = All-weaker (λ d. digit_value d < 16) IsByte (λ d less. digit_small d less) (hexadecimal n) (digits_spell.digits n)

-- ---- values

abbrev HasByteValue : Pair → Type 0
HasByteValue p = AreBytes p.value

name_values : (phys : ℕ) (name : Option (List ℕ)) → AreBytes (name_bytes name) → All HasByteValue (name_pairs phys name)
name_values phys None all = All-nil HasByteValue
name_values phys (Some name) all = All-cons HasByteValue (physmap_pair phys (codes "name") name) [] (bytes_front name (0 ∷ []) all) (All-nil HasByteValue)

entry_values : (e : Physmap) → AreBytes (name_bytes e.name) → All HasByteValue (pairs_of_physmap e)
entry_values e all =
    All-cons HasByteValue (physmap_pair e.phys (codes "start_addr") (hexadecimal e.start)) (physmap_pair e.phys (codes "size") (hexadecimal e.size) ∷ name_pairs e.phys e.name) (number_bytes e.start)
    (All-cons HasByteValue (physmap_pair e.phys (codes "size") (hexadecimal e.size)) (name_pairs e.phys e.name) (number_bytes e.size) (name_values e.phys e.name all))

values_bytes : (bytes : List ℕ) (es : List Physmap) → ArePhysmaps bytes es → AreBytes bytes → All HasByteValue (flat_map pairs_of_physmap es)
values_bytes bytes [] is all = All-nil HasByteValue
values_bytes bytes (e ∷ es) (head, pad, rest, whole, is_head, is_name, four, more) all =
    let behind = bytes_back head (name_bytes e.name ++ (pad ++ rest)) (subst AreBytes whole all) in
    let left = bytes_back pad rest (bytes_back (name_bytes e.name) (pad ++ rest) behind) in
    All-append HasByteValue (pairs_of_physmap e) (flat_map pairs_of_physmap es) (entry_values e (bytes_front (name_bytes e.name) (pad ++ rest) behind)) (values_bytes rest es more left)

-- ---- texts

key_small : (b : ℕ) → is_key_byte b ≡ true → b < 256
key_small b h = grind (arith, common_steps, h)

pair_bytes : (p : Pair) → IsPair p → HasByteValue p → AreBytes (text_of_pair p)
pair_bytes p is value =
    All-append IsByte p.key (0 ∷ (p.value ++ 0 ∷ [])) (All-weaker (λ b. is_key_byte b ≡ true) IsByte key_small p.key is.key)
    (All-cons IsByte 0 (p.value ++ 0 ∷ []) (omega arith) (All-append IsByte p.value (0 ∷ []) value (All-cons IsByte 0 [] (omega arith) (All-nil IsByte))))

text_bytes : (ps : List Pair) → All IsPair ps → All HasByteValue ps → AreBytes (flat_map text_of_pair ps)
text_bytes [] each values = All-nil IsByte
text_bytes (p ∷ ps) each values =
    All-append IsByte (text_of_pair p) (flat_map text_of_pair ps) (pair_bytes p (All-head IsPair p ps each) (All-head HasByteValue p ps values)) (text_bytes ps (All-tail IsPair p ps each) (All-tail HasByteValue p ps values))

-- ---- the store

pub toolstack_kept : (e : EmulatorsOf) (body : List ℕ) (es : List Physmap) → AreEmulators e → IsToolstack body es → spelled_with e store_key (flat_map pairs_of_physmap es) ≤ most_pairs → AreBytes body → AreEmulators (add_pairs e store_key (flat_map pairs_of_physmap es))
toolstack_kept e body es are is fits all =
    let ps = flat_map pairs_of_physmap es in
    let found = (toolstack_spelled body).spelled es is in
    let each : All IsPair ps = subst (λ (l : List Physmap). All IsPair (flat_map pairs_of_physmap l)) found.1 (physmaps_spell body found.0).each in
    let text = flat_map text_of_pair ps in
    let read = spelled_read text ps (record { each = each; spelled = refl }) in
    let values = values_bytes is.rest es is.each (bytes_back is.head is.rest (subst AreBytes is.whole all)) in
    pairs_kept e (add_pairs e store_key ps) text 0 0 are (omega arith) (omega arith) (ap (add_pairs e store_key) (sym read.1)) read.0
    (subst (λ n. n ≤ most_pairs) (ap (λ qs. spelled_with e store_key qs) (sym read.1)) fits) (text_bytes ps each values)
