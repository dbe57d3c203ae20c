-- Pairs in canonical form are the texts between zeros, by twos.
use Rattle.std.proofs.Common.{◌≡◌, ◌<◌, ℕ, zero, suc, Bool, true, false, List, [], ◌∷◌, ◌++◌, length, map, nat_eq, Ordering, Less, Equal, Greater, refl, sym, ap, subst, ◌∙◌, arith, append_assoc, eqb-true}
use Rattle.std.specs.List.{AllByRecursion, flat_map, list_all, slice_split, onto_first, join_with_byte}
use Rattle.std.specs.List.Sorted.{IsStrictlySortedBy}
use Rattle.std.specs.Cmp.Lexicographic.{slice_cmp}
use Rattle.std.specs.Ordering.{nat_cmp, is_lt}
use Rattle.std.proofs.lemmas.Bool.{and_from, and_parts}
use Rattle.mig_headers.proofs.Common.{common_steps}
use Rattle.std.proofs.lemmas.Cmp.{nat_list_cmp_total}
use Rattle.std.proofs.lemmas.List.Splits.{slice_split_at, slice_split-cons_yes, slice_split-cons_no, join_with_byte-slice_split}
use Rattle.std.proofs.lemmas.List.Elements.{All-from_recursion, recursion_from_All, All-weaker}
use Rattle.std.proofs.lemmas.List.Sums.{AllPass-from_list_all, list_all-from_AllPass}
use Rattle.mig_headers.specs.Pairs.{Pair, IsPair, AreCanonicalPairs, CanonicalPairsAreComputed, is_key_byte, text_of_pair, is_next_key, are_rising_texts, are_canonical_pairs}

abbrev is_zero : ℕ → Bool
is_zero b = nat_eq b 0

abbrev pub key_cmp : List ℕ → List ℕ → Ordering
key_cmp = slice_cmp nat_cmp

-- pairs whose keys are above this one
record PairsAbove (last bytes : List ℕ) : Type 0 where
  pairs : List Pair
  each : AllByRecursion IsPair pairs
  rising : IsStrictlySortedBy key_cmp (last ∷ map (λ p. p.key) pairs)
  spelled : flat_map text_of_pair pairs ≡ bytes

-- ---- texts without zeros

abbrev IsText : List ℕ → Type 0
IsText t = AllByRecursion (λ b. is_zero b ≡ false) t

onto_texts : (x : ℕ) (ts : List (List ℕ)) → is_zero x ≡ false → AllByRecursion IsText ts → AllByRecursion IsText (onto_first x ts)
onto_texts x [] other h = ((other, tt), tt)
onto_texts x (t ∷ ts) other h = ((other, h.0), h.1)

one_more : (b : ℕ) (bs : List ℕ) → AllByRecursion IsText (slice_split is_zero bs) → AllByRecursion IsText (slice_split is_zero (b ∷ bs))
one_more b bs h = which (is_zero b) refl
  where
    which : (z : Bool) → is_zero b ≡ z → AllByRecursion IsText (slice_split is_zero (b ∷ bs))
    which true is = subst (AllByRecursion IsText) (sym (slice_split-cons_yes is_zero b bs is)) (tt, h)
    which false is = subst (AllByRecursion IsText) (sym (slice_split-cons_no is_zero b bs is)) (onto_texts b (slice_split is_zero bs) is h)

are_texts : (bytes : List ℕ) → AllByRecursion IsText (slice_split is_zero bytes)
are_texts [] = (tt, tt)
are_texts (b ∷ bs) = one_more b bs (are_texts bs)

pub not_zero : (b : ℕ) → 0 < b → is_zero b ≡ false
not_zero b h = grind (arith, common_steps)

key_byte : (b : ℕ) → is_key_byte b ≡ true → is_zero b ≡ false
key_byte zero h = cc
key_byte (suc b) h = not_zero (suc b) (omega arith)

values_of : (t : List ℕ) → IsText t → AllByRecursion (λ b. 0 < b) t
values_of [] h = tt
values_of (zero ∷ bs) h = cc
values_of (suc b ∷ bs) h = (omega arith, values_of bs h.1)

-- ---- keys

is_less : (o : Ordering) → is_lt o ≡ true → o ≡ Less
is_less Less h = refl
is_less Equal h = cc
is_less Greater h = cc

some_key : (last key : List ℕ) → key_cmp last key ≡ Less → 0 < length key
some_key [] [] h = cc
some_key (x ∷ xs) [] h = cc
some_key last (y ∷ ys) h = omega arith

above : (key : List ℕ) → 0 < length key → key_cmp [] key ≡ Less
above [] h = absurd (omega arith)
above (x ∷ xs) h = refl

below_all : (last key : List ℕ) (keys : List (List ℕ)) → key_cmp last key ≡ Less → AllByRecursion (λ k. key_cmp key k ≡ Less) keys → AllByRecursion (λ k. key_cmp last k ≡ Less) keys
below_all last key [] less h = tt
below_all last key (k ∷ keys) less h = (nat_list_cmp_total.trans last key k less h.0, below_all last key keys less h.1)

-- ---- texts make pairs

pub joined : (key value rest : List ℕ) → (key ++ 0 ∷ (value ++ 0 ∷ [])) ++ rest ≡ key ++ 0 ∷ (value ++ 0 ∷ rest)
joined key value rest = append_assoc key (0 ∷ (value ++ 0 ∷ [])) rest ∙ ap (λ t. key ++ 0 ∷ t) (append_assoc value (0 ∷ []) rest)

no_bytes : (rest : List ℕ) → nat_eq (length rest) 0 ≡ true → rest ≡ []
no_bytes [] h = refl
no_bytes (b ∷ bs) h = absurd (omega (arith, eqb-true (length (b ∷ bs)) 0 h))

no_pairs : (last : List ℕ) → PairsAbove last []
unfolding IsStrictlySortedBy
no_pairs last = record { pairs = []; each = tt; rising = (tt, tt); spelled = refl }

one_pair : (last key value rest : List ℕ) → is_next_key last key ≡ true → IsText value → PairsAbove key rest → PairsAbove last (key ++ 0 ∷ (value ++ 0 ∷ rest))
unfolding IsStrictlySortedBy
one_pair last key value rest next text more =
    let (bytes, lower) = and_parts (list_all is_key_byte key) (is_lt (key_cmp last key)) next in
    let less = is_less (key_cmp last key) lower in record {
      pairs = record { key = key; value = value } ∷ more.pairs;
      each = (record { some = some_key last key less; key = AllPass-from_list_all is_key_byte key bytes; value = All-from_recursion (λ b. 0 < b) value (values_of value text) }, more.each);
      rising = ((less, below_all last key (map (λ p. p.key) more.pairs) less more.rising.0), more.rising);
      spelled = joined key value (flat_map text_of_pair more.pairs) ∙ ap (λ t. key ++ 0 ∷ (value ++ 0 ∷ t)) more.spelled;
    }

pairs_of : (last : List ℕ) (texts : List (List ℕ)) → AllByRecursion IsText texts → are_rising_texts last texts ≡ true → PairsAbove last (join_with_byte 0 texts)
pairs_of last [] are h = cc
pairs_of last (rest ∷ []) are h = subst (PairsAbove last) (sym (no_bytes rest h)) (no_pairs last)
pairs_of last (key ∷ value ∷ []) are h = let no = and_parts (is_next_key last key) false h in cc
pairs_of last (key ∷ value ∷ t ∷ ts) are h =
    let (next, more) = and_parts (is_next_key last key) (are_rising_texts key (t ∷ ts)) h in
    one_pair last key value (join_with_byte 0 (t ∷ ts)) next are.1.0 (pairs_of key (t ∷ ts) are.1.1 more)

-- ---- pairs make texts

cut : (p : Pair) (rest : List ℕ) → IsPair p → slice_split is_zero (text_of_pair p ++ rest) ≡ p.key ∷ p.value ∷ slice_split is_zero rest
cut p rest is =
    ap (slice_split is_zero) (joined p.key p.value rest)
    ∙ slice_split_at is_zero p.key 0 (p.value ++ 0 ∷ rest) (All-weaker (λ b. is_key_byte b ≡ true) (λ b. is_zero b ≡ false) key_byte p.key is.key) refl
    ∙ ap (λ t. p.key ∷ t) (slice_split_at is_zero p.value 0 rest (All-weaker (λ b. 0 < b) (λ b. is_zero b ≡ false) not_zero p.value is.value) refl)

texts_of : (last : List ℕ) (pairs : List Pair) → AllByRecursion IsPair pairs → IsStrictlySortedBy key_cmp (last ∷ map (λ p. p.key) pairs)
    → are_rising_texts last (slice_split is_zero (flat_map text_of_pair pairs)) ≡ true
unfolding IsStrictlySortedBy
texts_of last [] each rising = refl
texts_of last (p ∷ ps) each rising =
    let next = and_from (list_all is_key_byte p.key) (is_lt (key_cmp last p.key)) (list_all-from_AllPass is_key_byte p.key each.0.key) (ap is_lt rising.0.0) in
    let more = texts_of p.key ps each.1 rising.1 in
    ap (are_rising_texts last) (cut p (flat_map text_of_pair ps) each.0) ∙ and_from (is_next_key last p.key) (are_rising_texts p.key (slice_split is_zero (flat_map text_of_pair ps))) next more

canonical : (bytes : List ℕ) → PairsAbove [] bytes → AreCanonicalPairs bytes
unfolding IsStrictlySortedBy
canonical bytes h = record { pairs = h.pairs; each = All-from_recursion IsPair h.pairs h.each; rising = h.rising.1; spelled = h.spelled }

above_none : (pairs : List Pair) → AllByRecursion IsPair pairs → AllByRecursion (λ k. key_cmp [] k ≡ Less) (map (λ p. p.key) pairs)
above_none [] h = tt
above_none (p ∷ ps) h = (above p.key h.0.some, above_none ps h.1)

computed : (bytes : List ℕ) → are_canonical_pairs bytes ≡ true → AreCanonicalPairs bytes
unfolding are_canonical_pairs
computed bytes h = canonical bytes (subst (PairsAbove []) (join_with_byte-slice_split 0 bytes) (pairs_of [] (slice_split is_zero bytes) (are_texts bytes) h))

back : (bytes : List ℕ) → AreCanonicalPairs bytes → are_canonical_pairs bytes ≡ true
unfolding are_canonical_pairs IsStrictlySortedBy
back bytes h =
    let each = recursion_from_All IsPair h.pairs h.each in
    subst (λ t. are_rising_texts [] (slice_split is_zero t) ≡ true) h.spelled (texts_of [] h.pairs each (above_none h.pairs each, h.rising))

pub canonical_pairs_are_computed : CanonicalPairsAreComputed
canonical_pairs_are_computed bytes = (computed bytes, back bytes)
