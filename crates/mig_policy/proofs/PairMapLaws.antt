-- The text of a map of pairs is canonical, and says the map.
use Rattle.mig_policy.proofs.Common.{◌≡◌, ℕ, List, [], ◌∷◌, ◌++◌, map, length, ◌<◌, refl, sym, ap, subst, ◌∙◌, append_assoc, append-nil, arith, common_steps, T, All, AllByRecursion, flat_map, Ordering, Less, Equal, Greater, is_lt, nat_list_cmp_total, All-from_recursion, recursion_from_All, entries-insert, entries_sorted, same_entries_map, put, is_sorted, Pair, IsPair, AreCanonicalPairs, AreRising, text_of_pair, PairMap, IsOfPairs, put_pairs, pair_of, text_of_entry, text_of_map, pairs_in, map_of, merged, fold, ordering_reverse, by_order, below_all, TextsAreCanonical, MapsAreOfPairs, SomeBytesAreSomePairs}
use Rattle.mig_guest.proofs.PartCursor.{both_of}
use Rattle.std.specs.Prelude.{None}
use Rattle.std.specs.List.Sorted.{IsStrictlySortedBy}
use Rattle.mig_policy.specs.PairFaults.{pairs_fault}
use Rattle.mig_policy.proofs.PairTrees.{no_entries}
use Rattle.mig_policy.proofs.KeyLaws.{spelled_read, pairs_are_read}
use Rattle.std.specs.FinMap as maps
use Rattle.mig_headers.proofs.PairTexts.{key_cmp}

abbrev pub Entry : Type 0
Entry = List ℕ × List ℕ

-- the same on lists of entries in order
abbrev put_entry : List Entry → Pair → List Entry
put_entry es p = put key_cmp p.key p.value es

-- the entries of a map in which pairs were set
puts_entries : (m : PairMap) (ps : List Pair) → maps.entries (put_pairs m ps) ≡ fold put_entry (maps.entries m) ps
puts_entries m [] = refl
puts_entries m (p ∷ ps) = puts_entries (maps.insert m p.key p.value) ps ∙ ap (λ es. fold put_entry es ps) (entries-insert nat_list_cmp_total m p.key p.value)

abbrev IsGood : Entry → Type 0
IsGood e = IsPair (pair_of e)

-- ---- pairs stay pairs

put_good : (p : Pair) (es : List Entry) → IsPair p → AllByRecursion IsGood es → AllByRecursion IsGood (put key_cmp p.key p.value es)
put_good p [] is each = (is, tt)
put_good p (e ∷ es) is each =
    elim (key_cmp p.key e.0) as (λ o. AllByRecursion IsGood (by_order o ((p.key, p.value) ∷ e ∷ es) ((e.0, p.value) ∷ es) (e ∷ put key_cmp p.key p.value es))) [
      | Less ↦ (is, each)
      | Equal ↦ (record { some = each.0.some; key = each.0.key; value = is.value }, each.1)
      | Greater ↦ (each.0, put_good p es is each.1)
    ]

puts_good : (ps : List Pair) (es : List Entry) → AllByRecursion IsPair ps → AllByRecursion IsGood es → AllByRecursion IsGood (fold put_entry es ps)
puts_good [] es are each = each
puts_good (p ∷ ps) es are each = puts_good ps (put key_cmp p.key p.value es) are.1 (put_good p es are.0 each)

good_pairs : (es : List Entry) → AllByRecursion IsGood es → AllByRecursion IsPair (map pair_of es)
good_pairs [] h = tt
good_pairs (e ∷ es) h = (h.0, good_pairs es h.1)

-- ---- the text of a map is canonical

is_less : (o : Ordering) → T (is_lt o) → o ≡ Less
is_less Less h = refl
is_less Equal h = absurd h
is_less Greater h = absurd h

below : (x : List ℕ) (es : List Entry) → T (below_all key_cmp x es) → AllByRecursion (λ k. key_cmp x k ≡ Less) (map (λ p. p.key) (map pair_of es))
below x [] h = tt
below x (e ∷ es) h = let (a, b) = both_of (is_lt (key_cmp x e.0)) (below_all key_cmp x es) h in (is_less (key_cmp x e.0) a, below x es b)

pub rises : (es : List Entry) → T (is_sorted key_cmp es) → AreRising (map pair_of es)
unfolding IsStrictlySortedBy
rises [] h = tt
rises (e ∷ es) h = let (a, b) = both_of (below_all key_cmp e.0 es) (is_sorted key_cmp es) h in (below e.0 es a, rises es b)

pub text_pairs : (es : List Entry) → flat_map text_of_pair (map pair_of es) ≡ flat_map text_of_entry es
text_pairs [] = refl
text_pairs (e ∷ es) = ap (λ t. text_of_entry e ++ t) (text_pairs es)

canonical_text : (m : PairMap) → AllByRecursion IsGood (maps.entries m) → AreCanonicalPairs (text_of_map m)
canonical_text m each = record {
  pairs = map pair_of (maps.entries m);
  each = All-from_recursion IsPair (map pair_of (maps.entries m)) (good_pairs (maps.entries m) each);
  rising = rises (maps.entries m) (entries_sorted m);
  spelled = text_pairs (maps.entries m);
}

-- ---- rising pairs are the entries of their map

abbrev pub entry_of : Pair → Entry
entry_of p = (p.key, p.value)

abbrev IsBelow : List Pair → Entry → Type 0
IsBelow ps e = AllByRecursion (λ k. key_cmp e.0 k ≡ Less) (map (λ p. p.key) ps)

put_last : (p : Pair) (es : List Entry) → AllByRecursion (λ e. key_cmp e.0 p.key ≡ Less) es → put key_cmp p.key p.value es ≡ es ++ entry_of p ∷ []
put_last p [] h = refl
put_last p (e ∷ es) h =
    ap (λ o. by_order o ((p.key, p.value) ∷ e ∷ es) ((e.0, p.value) ∷ es) (e ∷ put key_cmp p.key p.value es)) (nat_list_cmp_total.antisymm p.key e.0 ∙ ap ordering_reverse h.0)
    ∙ ap (λ fs. e ∷ fs) (put_last p es h.1)

heads : (p : Pair) (ps : List Pair) (es : List Entry) → AllByRecursion (IsBelow (p ∷ ps)) es → AllByRecursion (λ e. key_cmp e.0 p.key ≡ Less) es
heads p ps [] h = tt
heads p ps (e ∷ es) h = (h.0.0, heads p ps es h.1)

tails : (p : Pair) (ps : List Pair) (es : List Entry) → AllByRecursion (IsBelow (p ∷ ps)) es → IsBelow ps (entry_of p) → AllByRecursion (IsBelow ps) (es ++ entry_of p ∷ [])
tails p ps [] h low = (low, tt)
tails p ps (e ∷ es) h low = (h.0.1, tails p ps es h.1 low)

risen : (ps : List Pair) (es : List Entry) → AllByRecursion (IsBelow ps) es → AreRising ps → fold put_entry es ps ≡ es ++ map entry_of ps
unfolding IsStrictlySortedBy
risen [] es h rising = sym (append-nil es)
risen (p ∷ ps) es h rising =
    ap (λ fs. fold put_entry fs ps) (put_last p es (heads p ps es h)) ∙ risen ps (es ++ entry_of p ∷ []) (tails p ps es h rising.0) rising.1 ∙ append_assoc es (entry_of p ∷ []) (map entry_of ps)

pub map_entries : (ps : List Pair) → AreRising ps → maps.entries (put_pairs maps.empty ps) ≡ map entry_of ps
map_entries ps rising = puts_entries maps.empty ps ∙ ap (λ es. fold put_entry es ps) no_entries ∙ risen ps [] tt rising

pub text_entries : (ps : List Pair) → flat_map text_of_entry (map entry_of ps) ≡ flat_map text_of_pair ps
text_entries [] = refl
text_entries (p ∷ ps) = ap (λ t. text_of_pair p ++ t) (text_entries ps)

pub same_entries_again : (es : List Entry) → map entry_of (map pair_of es) ≡ es
same_entries_again [] = refl
same_entries_again (e ∷ es) = ap (λ fs. e ∷ fs) (same_entries_again es)

-- ---- maps of pairs

of_good : (m : PairMap) → AllByRecursion IsGood (maps.entries m) → IsOfPairs m
of_good m each = All-from_recursion IsPair (map pair_of (maps.entries m)) (good_pairs (maps.entries m) each)

good_entries : (es : List Entry) → AllByRecursion IsPair (map pair_of es) → AllByRecursion IsGood es
good_entries [] h = tt
good_entries (e ∷ es) h = (h.0, good_entries es h.1)

to_good : (m : PairMap) → IsOfPairs m → AllByRecursion IsGood (maps.entries m)
to_good m each = good_entries (maps.entries m) (recursion_from_All IsPair (map pair_of (maps.entries m)) each)

pairs_put : (m : PairMap) (ps : List Pair) → IsOfPairs m → All IsPair ps → IsOfPairs (put_pairs m ps)
pairs_put m ps each are =
    of_good (put_pairs m ps) (subst (AllByRecursion IsGood) (sym (puts_entries m ps)) (puts_good ps (maps.entries m) (recursion_from_All IsPair ps are) (to_good m each)))

empty_text : text_of_map maps.empty ≡ []
empty_text = ap (flat_map text_of_entry) no_entries

no_pairs : IsOfPairs maps.empty
no_pairs = of_good maps.empty (subst (AllByRecursion IsGood) (sym no_entries) tt)

text_of_pairs : (m : PairMap) → IsOfPairs m → AreCanonicalPairs (text_of_map m)
text_of_pairs m each = canonical_text m (to_good m each)

read_pairs : (bytes : List ℕ) (h : AreCanonicalPairs bytes) → pairs_in bytes ≡ h.pairs
read_pairs bytes h = (spelled_read bytes h.pairs (record { each = h.each; spelled = h.spelled })).1

spelled_map : (bytes : List ℕ) → AreCanonicalPairs bytes → IsOfPairs (map_of bytes)
spelled_map bytes h = pairs_put maps.empty (pairs_in bytes) no_pairs (subst (All IsPair) (sym (read_pairs bytes h)) h.each)

added : (m : PairMap) (bytes : List ℕ) → IsOfPairs m → pairs_fault bytes ≡ None → IsOfPairs (put_pairs m (pairs_in bytes))
added m bytes each none = let h = (pairs_are_read bytes (pairs_in bytes)).0 (none, refl) in pairs_put m (pairs_in bytes) each h.each

pub maps_are_of_pairs : MapsAreOfPairs
maps_are_of_pairs = record { none = no_pairs; empty = empty_text; spelled = spelled_map; added = added; text = text_of_pairs }

-- ---- canonical texts

of_pairs : (ps : List Pair) → All IsPair ps → AreCanonicalPairs (text_of_map (put_pairs maps.empty ps))
of_pairs ps each = text_of_pairs (put_pairs maps.empty ps) (pairs_put maps.empty ps no_pairs each)

again : (bytes : List ℕ) → AreCanonicalPairs bytes → text_of_map (map_of bytes) ≡ bytes
again bytes h = ap (λ ps. text_of_map (put_pairs maps.empty ps)) (read_pairs bytes h) ∙ ap (flat_map text_of_entry) (map_entries h.pairs h.rising) ∙ text_entries h.pairs ∙ h.spelled

merged_text : (part bytes : List ℕ) → AreCanonicalPairs part → pairs_fault bytes ≡ None → AreCanonicalPairs (text_of_map (merged part bytes))
merged_text part bytes h none = text_of_pairs (merged part bytes) (added (map_of part) bytes (spelled_map part h) none)

read_again : (m : PairMap) → IsOfPairs m → map_of (text_of_map m) ≡ m
read_again m each =
    let ps = map pair_of (maps.entries m) in
    let is = (spelled_read (text_of_map m) ps (record { each = each; spelled = text_pairs (maps.entries m) })).1 in
    same_entries_map (map_of (text_of_map m)) m (ap (λ qs. maps.entries (put_pairs maps.empty qs)) is ∙ map_entries ps (rises (maps.entries m) (entries_sorted m)) ∙ same_entries_again (maps.entries m))

pub texts_are_canonical : TextsAreCanonical
texts_are_canonical = record { canonical = of_pairs; again = again; merged = merged_text; read = read_again }

-- ---- some bytes

no_fault : (bytes : List ℕ) → AreCanonicalPairs bytes → pairs_fault bytes ≡ None
no_fault bytes h = (spelled_read bytes h.pairs (record { each = h.each; spelled = h.spelled })).0

some_of : (ps : List Pair) (bytes : List ℕ) → flat_map text_of_pair ps ≡ bytes → 0 < length bytes → 0 < length ps
some_of [] bytes is some = let n = ap length is in absurd (omega (arith, n, some))
some_of (p ∷ ps) bytes is some = omega arith

some_pairs : (bytes : List ℕ) → pairs_fault bytes ≡ None → 0 < length bytes → 0 < length (pairs_in bytes)
some_pairs bytes none some = let h = (pairs_are_read bytes (pairs_in bytes)).0 (none, refl) in some_of (pairs_in bytes) bytes h.spelled some

put_some : (p : Pair) (es : List Entry) → 0 < length (put_entry es p)
put_some p [] = omega arith
put_some p (e ∷ es) = elim (key_cmp p.key e.0) as (λ o. 0 < length (by_order o ((p.key, p.value) ∷ e ∷ es) ((e.0, p.value) ∷ es) (e ∷ put_entry es p))) [
  | Less ↦ omega arith
  | Equal ↦ omega arith
  | Greater ↦ omega arith
]

puts_some : (ps : List Pair) (es : List Entry) → 0 < length es → 0 < length (fold put_entry es ps)
puts_some [] es some = some
puts_some (p ∷ ps) es some = puts_some ps (put_entry es p) (put_some p es)

some_entries : (ps : List Pair) (es : List Entry) → 0 < length ps → 0 < length (fold put_entry es ps)
some_entries [] es some = absurd (omega (arith, some))
some_entries (p ∷ ps) es some = puts_some ps (put_entry es p) (put_some p es)

long_text : (es : List Entry) → 0 < length es → 0 < length (flat_map text_of_entry es)
long_text [] some = absurd (omega (arith, some))
long_text (e ∷ es) some = grind (arith, common_steps)

some_text : (m : PairMap) (bytes : List ℕ) → pairs_fault bytes ≡ None → 0 < length bytes → 0 < length (text_of_map (put_pairs m (pairs_in bytes)))
some_text m bytes none some =
    long_text (maps.entries (put_pairs m (pairs_in bytes))) (subst (λ es. 0 < length es) (sym (puts_entries m (pairs_in bytes))) (some_entries (pairs_in bytes) (maps.entries m) (some_pairs bytes none some)))

pub some_bytes_are_some_pairs : SomeBytesAreSomePairs
some_bytes_are_some_pairs = record { sound = no_fault; some = some_pairs; text = some_text }
