-- The first bad key, computed, is the one in words; and bytes without fault spell their pairs.
use Rattle.mig_policy.proofs.Common.{◌≡◌, ◌<◌, ◌≤◌, ℕ, zero, suc, ◌+◌, Bool, true, false, not, cond, List, [], ◌∷◌, ◌++◌, length, nat_eq, nat_lt, Option, Some, None, refl, sym, ap, subst, ◌∙◌, arith, append_assoc, append-nil, ◌||◌, All, AllByRecursion, flat_map, common_steps, slice_split_at, slice_split_none, All-from_recursion, recursion_from_All, All-weaker, All-nil, All-cons, All-head, fails_before_first, prefix_len-le-length, Pair, IsPair, is_key_byte, text_of_pair, texts_in, HasNoZero, ended, SpellPairs, IsTornAt, torn_at, bad_key_at, fine_len, pairs_of, join_with_byte, slice_split-cons_yes, join_with_byte-slice_split, All-append, All-same}
use Rattle.mig_headers.specs.declared.fault.Cause.{Cause}
use Rattle.mig_headers.specs.declared.fault.Cause.TheVariants.{BadPairs, BadKey}
use Rattle.mig_policy.specs.PairFaults.{IsBadKeyAt, IsFirstFault, FirstFaultIsComputed, first_of, pairs_fault}
use Rattle.mig_policy.specs.PairMaps.{pairs_in, PairsAreRead}
use Rattle.mig_policy.proofs.TextSteps.{torn_cons, pairs_cons, some_texts, bad_here, is_zero}
use Rattle.mig_policy.proofs.Cuts.{no_zero, cut_of, cut_is}
use Rattle.mig_policy.proofs.FaultLaws.{torn_forth, torn_back}
use Rattle.mig_headers.proofs.PairTexts.{joined}

abbrev IsKeyByte : ℕ → Type 0
IsKeyByte b = is_key_byte b ≡ true

key_byte : (b : ℕ) → is_key_byte b ≡ true → 0 < b
key_byte zero h = cc
key_byte (suc b) h = omega arith

no_zero_in_key : (key : List ℕ) → All IsKeyByte key → HasNoZero key
no_zero_in_key key h = All-weaker IsKeyByte (λ b. 0 < b) key_byte key h

-- ---- how much of a key is allowed

next : (n : ℕ) → 1 + n ≡ suc n
next n = omega arith

fine_all : (key : List ℕ) → AllByRecursion IsKeyByte key → fine_len key ≡ length key
fine_all [] h = refl
fine_all (b ∷ bs) h = ap (λ t. cond (not (not t)) (1 + fine_len bs) 0) h.0 ∙ ap (λ n. 1 + n) (fine_all bs h.1) ∙ next (length bs)

fine_front : (front : List ℕ) (byte : ℕ) (behind : List ℕ) → AllByRecursion IsKeyByte front → is_key_byte byte ≡ false → fine_len (front ++ byte ∷ behind) ≡ length front
fine_front [] byte behind h bad = ap (λ t. cond (not (not t)) (1 + fine_len behind) 0) bad
fine_front (b ∷ bs) byte behind h bad = ap (λ t. cond (not (not t)) (1 + fine_len (bs ++ byte ∷ behind)) 0) h.0 ∙ ap (λ n. 1 + n) (fine_front bs byte behind h.1 bad) ∙ next (length bs)

record Broken (key : List ℕ) : Type 0 where
  front : List ℕ
  byte : ℕ
  after : List ℕ
  parts : front ++ byte ∷ after ≡ key
  fine : AllByRecursion IsKeyByte front
  bad : is_key_byte byte ≡ false
  some : 0 < byte
  len : length front ≡ fine_len key

one_on : (b : ℕ) (bs : List ℕ) → is_key_byte b ≡ true → Broken bs → Broken (b ∷ bs)
one_on b bs is h = record {
  front = b ∷ h.front;
  byte = h.byte;
  after = h.after;
  parts = ap (λ t. b ∷ t) h.parts;
  fine = (is, h.fine);
  bad = h.bad;
  some = h.some;
  len = sym (next (length h.front)) ∙ ap (λ n. 1 + n) h.len ∙ sym (ap (λ t. cond (not (not t)) (1 + fine_len bs) 0) is);
}

broken_at : (b : ℕ) (bs : List ℕ) → is_key_byte b ≡ false → 0 < b → Broken (b ∷ bs)
broken_at b bs is some = record { front = []; byte = b; after = bs; parts = refl; fine = tt; bad = is; some = some; len = sym (ap (λ t. cond (not (not t)) (1 + fine_len bs) 0) is) }

less_on : (b : ℕ) (bs : List ℕ) → is_key_byte b ≡ true → fine_len (b ∷ bs) < length (b ∷ bs) → fine_len bs < length bs
less_on b bs is less = let e : fine_len (b ∷ bs) ≡ 1 + fine_len bs = ap (λ t. cond (not (not t)) (1 + fine_len bs) 0) is in omega (arith, e, less)

which : (b : ℕ) (bs : List ℕ) (t : Bool) → is_key_byte b ≡ t → 0 < b → fine_len (b ∷ bs) < length (b ∷ bs) → (fine_len bs < length bs → Broken bs) → Broken (b ∷ bs)
which b bs true is some less rest = one_on b bs is (rest (less_on b bs is less))
which b bs false is some less rest = broken_at b bs is some

broken : (key : List ℕ) → AllByRecursion (λ b. 0 < b) key → fine_len key < length key → Broken key
broken [] text less = absurd (omega arith)
broken (b ∷ bs) text less = which b bs (is_key_byte b) refl text.0 less (λ shorter. broken bs text.1 shorter)

twice_not : (t : Bool) → not t ≡ false → t ≡ true
twice_not true h = refl
twice_not false h = cc

all_fine : (key : List ℕ) → fine_len key ≡ length key → All IsKeyByte key
all_fine key e = λ k d less. twice_not _ (fails_before_first (λ b. not (is_key_byte b)) key k d (omega (arith, e, less)))

-- ---- over whole pairs

abbrev is_bad : List ℕ → Bool
is_bad key = (nat_eq (length key) 0) || nat_lt (fine_len key) (length key)

good : (n m : ℕ) → 0 < n → m ≡ n → ((nat_eq n 0) || nat_lt m n) ≡ false
good n m some e = grind (arith, common_steps)

good_key : (p : Pair) → IsPair p → is_bad p.key ≡ false
good_key p is = good (length p.key) (fine_len p.key) is.some (fine_all p.key (recursion_from_All IsKeyByte p.key is.key))

pub cut_pair : (p : Pair) (rest : List ℕ) → IsPair p → texts_in (text_of_pair p ++ rest) ≡ p.key ∷ p.value ∷ texts_in rest
cut_pair p rest is =
    ap texts_in (joined p.key p.value rest) ∙ slice_split_at is_zero p.key 0 (p.value ++ 0 ∷ rest) (no_zero p.key (no_zero_in_key p.key is.key)) refl
    ∙ ap (λ t. p.key ∷ t) (slice_split_at is_zero p.value 0 rest (no_zero p.value is.value) refl)

cut_first : (p : Pair) (ps : List Pair) (rest : List ℕ) → IsPair p → texts_in (flat_map text_of_pair (p ∷ ps) ++ rest) ≡ p.key ∷ p.value ∷ texts_in (flat_map text_of_pair ps ++ rest)
cut_first p ps rest is = ap texts_in (append_assoc (text_of_pair p) (flat_map text_of_pair ps) rest) ∙ cut_pair p (flat_map text_of_pair ps ++ rest) is

len_pairs : (p : Pair) (ps : List Pair) → length (flat_map text_of_pair (p ∷ ps)) ≡ length p.key + length p.value + 2 + length (flat_map text_of_pair ps)
len_pairs p ps = grind (arith, common_steps)

sum_torn : (at k v f : ℕ) → (at + k + 1 + v + 1) + f ≡ at + (k + v + 2 + f)
sum_torn at k v f = omega arith

sum_bad : (at k v f : ℕ) → (at + k + v + 2) + f ≡ at + (k + v + 2 + f)
sum_bad at k v f = omega arith

plus_none : (at : ℕ) → at ≡ at + 0
plus_none at = omega arith

pub torn_over : (at : ℕ) (ps : List Pair) (rest : List ℕ) → AllByRecursion IsPair ps → torn_at false at (texts_in (flat_map text_of_pair ps ++ rest)) ≡ torn_at false (at + length (flat_map text_of_pair ps)) (texts_in rest)
torn_over at [] rest each = ap (λ n. torn_at false n (texts_in rest)) (plus_none at)
torn_over at (p ∷ ps) rest each =
    let more = flat_map text_of_pair ps ++ rest in
    ap (torn_at false at) (cut_first p ps rest each.0) ∙ torn_cons true (at + length p.key + 1) p.value (texts_in more) (some_texts more)
    ∙ torn_over (at + length p.key + 1 + length p.value + 1) ps rest each.1
    ∙ ap (λ n. torn_at false n (texts_in rest)) (sum_torn at (length p.key) (length p.value) (length (flat_map text_of_pair ps)) ∙ ap (λ n. at + n) (sym (len_pairs p ps)))

pub bad_over : (at : ℕ) (ps : List Pair) (rest : List ℕ) → AllByRecursion IsPair ps → bad_key_at at (texts_in (flat_map text_of_pair ps ++ rest)) ≡ bad_key_at (at + length (flat_map text_of_pair ps)) (texts_in rest)
bad_over at [] rest each = ap (λ n. bad_key_at n (texts_in rest)) (plus_none at)
bad_over at (p ∷ ps) rest each =
    let more = texts_in (flat_map text_of_pair ps ++ rest) in
    ap (bad_key_at at) (cut_first p ps rest each.0)
    ∙ ap (λ b. cond b (Some (at + fine_len p.key)) (bad_key_at (at + length p.key + length p.value + 2) more)) (good_key p each.0)
    ∙ bad_over (at + length p.key + length p.value + 2) ps rest each.1
    ∙ ap (λ n. bad_key_at n (texts_in rest)) (sum_bad at (length p.key) (length p.value) (length (flat_map text_of_pair ps)) ∙ ap (λ n. at + n) (sym (len_pairs p ps)))

pub pairs_over : (ps : List Pair) (rest : List ℕ) → AllByRecursion IsPair ps → pairs_of (texts_in (flat_map text_of_pair ps ++ rest)) ≡ ps ++ pairs_of (texts_in rest)
pairs_over [] rest each = refl
pairs_over (p ∷ ps) rest each =
    let more = flat_map text_of_pair ps ++ rest in
    ap pairs_of (cut_first p ps rest each.0) ∙ pairs_cons p.key p.value (texts_in more) (some_texts more) ∙ ap (λ qs. p ∷ qs) (pairs_over ps rest each.1)

-- ---- what is spelled has no fault

pub spelled_read : (bytes : List ℕ) (ps : List Pair) → SpellPairs bytes ps → (pairs_fault bytes ≡ None) × (pairs_in bytes ≡ ps)
unfolding pairs_fault pairs_in
spelled_read bytes ps h =
    let each = recursion_from_All IsPair ps h.each in let whole = append-nil (flat_map text_of_pair ps) ∙ h.spelled in
    let torn = ap (λ t. torn_at false 0 (texts_in t)) (sym whole) ∙ torn_over 0 ps [] each in
    let bad = ap (λ t. bad_key_at 0 (texts_in t)) (sym whole) ∙ bad_over 0 ps [] each in (
      (λ i. first_of (torn i) (bad i)),
      ap (λ t. pairs_of (texts_in t)) (sym whole) ∙ pairs_over ps [] each ∙ append-nil ps,
    )

-- ---- a bad key in words is the one computed

nothing : (n : ℕ) (p : ℕ) → ◌≡◌ {A = Option ℕ} (Some n) None → ⊥
nothing n p h = cc

record Begins (suffix : List ℕ) (place : ℕ) : Type 0 where
  key : List ℕ
  behind : List ℕ
  first : texts_in suffix ≡ key ∷ texts_in behind
  bad : is_bad key ≡ true
  here : fine_len key ≡ place

shorter : (n m k : ℕ) → n ≡ m → m < k → ((nat_eq k 0) || nat_lt n k) ≡ true
shorter n m k e less = grind (arith, common_steps)

begins_in : (at : ℕ) (front : List ℕ) (byte : ℕ) (behind : List ℕ) → All IsKeyByte front → is_key_byte byte ≡ false → 0 < byte
    → (texts : List (List ℕ)) (rest : List ℕ) → All HasNoZero texts → HasNoZero rest → flat_map ended texts ++ rest ≡ behind → torn_at false at (texts_in (front ++ byte ∷ behind)) ≡ None → Begins (front ++ byte ∷ behind) (length front)
begins_in at front byte behind fine bad some [] rest each open_text spelled torn =
    let whole : HasNoZero (front ++ byte ∷ rest) = All-append (λ b. 0 < b) front (byte ∷ rest) (no_zero_in_key front fine) (All-cons (λ b. 0 < b) byte rest some open_text) in
    let cut : texts_in (front ++ byte ∷ behind) ≡ (front ++ byte ∷ rest) ∷ [] = ap (λ t. texts_in (front ++ byte ∷ t)) (sym spelled) ∙ slice_split_none is_zero (front ++ byte ∷ rest) (no_zero (front ++ byte ∷ rest) whole) in
    let long : nat_lt 0 (length (front ++ byte ∷ rest)) ≡ true = grind (arith, common_steps) in
    absurd (nothing at 0 (sym (ap (torn_at false at) cut ∙ ap (λ b. cond b (Some at) None) long) ∙ torn))
begins_in at front byte behind fine bad some (t ∷ ts) rest each open_text spelled torn =
    let key = front ++ byte ∷ t in
    let text : HasNoZero key = All-append (λ b. 0 < b) front (byte ∷ t) (no_zero_in_key front fine) (All-cons (λ b. 0 < b) byte t some (All-head HasNoZero t ts each)) in
    let parts : front ++ byte ∷ behind ≡ key ++ 0 ∷ (flat_map ended ts ++ rest) =
    ap (λ s. front ++ byte ∷ s) (sym spelled ∙ append_assoc (ended t) (flat_map ended ts) rest ∙ append_assoc t (0 ∷ []) (flat_map ended ts ++ rest)) ∙ sym (append_assoc front (byte ∷ t) (0 ∷ (flat_map ended ts ++ rest))) in
    let len : fine_len key ≡ length front = fine_front front byte t (recursion_from_All IsKeyByte front fine) bad in
    let less : length front < length key = grind (arith, common_steps) in record {
      key = key;
      behind = flat_map ended ts ++ rest;
      first = ap texts_in parts ∙ slice_split_at is_zero key 0 (flat_map ended ts ++ rest) (no_zero key text) refl;
      bad = shorter (fine_len key) (length front) (length key) len less;
      here = len;
    }

begins : (at : ℕ) (front : List ℕ) (byte : ℕ) (behind : List ℕ) → All IsKeyByte front → is_key_byte byte ≡ false → (byte ≡ 0 → front ≡ []) → torn_at false at (texts_in (front ++ byte ∷ behind)) ≡ None
    → Begins (front ++ byte ∷ behind) (length front)
begins at front zero behind fine bad empty torn = subst (λ (f : List ℕ). Begins (f ++ 0 ∷ behind) (length f)) (sym (empty refl)) (record { key = []; behind = behind; first = slice_split-cons_yes is_zero 0 behind refl; bad = refl; here = refl })
begins at front (suc b) behind fine bad empty torn = let h = cut_of behind in begins_in at front (suc b) behind fine bad (omega arith) h.texts h.rest h.each h.open_text h.spelled torn

pub bad_back : (bytes : List ℕ) (place : ℕ) → IsBadKeyAt bytes place → torn_at false 0 (texts_in bytes) ≡ None → bad_key_at 0 (texts_in bytes) ≡ Some place
bad_back bytes place h torn =
    let each = recursion_from_All IsPair h.pairs h.each in let flat = flat_map text_of_pair h.pairs in let suffix = h.front ++ h.byte ∷ h.behind in
    let b = begins (0 + length flat) h.front h.byte h.behind h.fine h.bad h.empty (sym (torn_over 0 h.pairs suffix each) ∙ ap (λ t. torn_at false 0 (texts_in t)) h.spelled ∙ torn) in
    ap (λ t. bad_key_at 0 (texts_in t)) (sym h.spelled) ∙ bad_over 0 h.pairs suffix each ∙ bad_here (0 + length flat) suffix b.key b.behind b.first b.bad
    ∙ ap Some (ap (λ n. (0 + length flat) + n) b.here ∙ (let e : (0 + length flat) + length h.front ≡ length flat + length h.front = omega arith in e) ∙ h.here)

-- ---- what is computed holds in words

abbrev Walked : ℕ → List ℕ → List (List ℕ) → Option ℕ → Type 0
Walked at bytes ts None = SpellPairs bytes (pairs_of ts)
Walked at bytes ts (Some place) = (q : ℕ) × (at + q ≡ place) × IsBadKeyAt bytes q

key_pair : (key value : List ℕ) → is_bad key ≡ false → HasNoZero value → IsPair (record { key = key; value = value })
key_pair key value fine text =
    let h = fine_parts (length key) (fine_len key) (prefix_len-le-length (λ x. not (not (is_key_byte x))) key) fine in record { some = h.0; key = all_fine key h.1; value = text }
  where
    fine_parts : (n m : ℕ) → m ≤ n → ((nat_eq n 0) || nat_lt m n) ≡ false → (0 < n) × (m ≡ n)
    fine_parts n m le h = grind (arith, common_steps)

onto_pair : (at : ℕ) (key value rest : List ℕ) (t : List ℕ) (ts : List (List ℕ)) (r : Option ℕ) → IsPair (record { key = key; value = value }) → Walked (at + length key + length value + 2) rest (t ∷ ts) r
    → Walked at (key ++ 0 ∷ (value ++ 0 ∷ rest)) (key ∷ value ∷ t ∷ ts) r
onto_pair at key value rest t ts None is h = record {
  each = All-cons IsPair (record { key = key; value = value }) (pairs_of (t ∷ ts)) is h.each;
  spelled = joined key value (flat_map text_of_pair (pairs_of (t ∷ ts))) ∙ ap (λ s. key ++ 0 ∷ (value ++ 0 ∷ s)) h.spelled;
}
onto_pair at key value rest t ts (Some place) is (q, there, h) =
    let p : Pair = record { key = key; value = value } in (
      length key + length value + 2 + q,
      sym (sum_bad at (length key) (length value) q) ∙ there,
      record {
        pairs = p ∷ h.pairs;
        front = h.front;
        byte = h.byte;
        behind = h.behind;
        each = All-cons IsPair p h.pairs is h.each;
        fine = h.fine;
        bad = h.bad;
        empty = h.empty;
        spelled = append_assoc (text_of_pair p) (flat_map text_of_pair h.pairs) (h.front ++ h.byte ∷ h.behind) ∙ joined key value (flat_map text_of_pair h.pairs ++ (h.front ++ h.byte ∷ h.behind)) ∙ ap (λ s. key ++ 0 ∷ (value ++ 0 ∷ s)) h.spelled;
        here = let e = h.here in let l = len_pairs p h.pairs in omega (arith, e, l);
      },
    )

is_shorter : (n m : ℕ) → 0 < n → ((nat_eq n 0) || nat_lt m n) ≡ true → m < n
is_shorter n m some h = grind (arith, common_steps)

bad_first : (at : ℕ) (key rest : List ℕ) → HasNoZero key → is_bad key ≡ true → IsBadKeyAt (key ++ 0 ∷ rest) (fine_len key)
bad_first at [] rest text bad = record { pairs = []; front = []; byte = 0; behind = rest; each = All-nil IsPair; fine = All-nil IsKeyByte; bad = refl; empty = λ _. refl; spelled = refl; here = omega arith }
bad_first at (b ∷ bs) rest text bad =
    let h = broken (b ∷ bs) (recursion_from_All (λ b. 0 < b) (b ∷ bs) text) (is_shorter (length (b ∷ bs)) (fine_len (b ∷ bs)) (omega arith) bad) in record {
      pairs = [];
      front = h.front;
      byte = h.byte;
      behind = h.after ++ 0 ∷ rest;
      each = All-nil IsPair;
      fine = All-from_recursion IsKeyByte h.front h.fine;
      bad = h.bad;
      empty = λ e. absurd (let some = h.some in omega (arith, e, some));
      spelled = sym (append_assoc h.front (h.byte ∷ h.after) (0 ∷ rest)) ∙ ap (λ k. k ++ 0 ∷ rest) h.parts;
      here = let e = h.len in omega (arith, e);
    }

no_bytes : (at : ℕ) (rest : List ℕ) → cond (false || nat_lt 0 (length rest)) (Some at) None ≡ None → rest ≡ []
no_bytes at [] h = refl
no_bytes at (b ∷ bs) h = absurd (nothing at 0 (sym (ap (λ t. cond {A = Option ℕ} t (Some at) None) (let e : nat_lt 0 (length (b ∷ bs)) ≡ true = grind (arith, common_steps) in e)) ∙ h))

choose : (at : ℕ) (key value rest : List ℕ) (t : List ℕ) (ts : List (List ℕ)) (b : Bool) → is_bad key ≡ b → HasNoZero key → HasNoZero value → Walked (at + length key + length value + 2) rest (t ∷ ts) (bad_key_at (at + length key + length value + 2) (t ∷ ts))
    → Walked at (key ++ 0 ∷ (value ++ 0 ∷ rest)) (key ∷ value ∷ t ∷ ts) (cond b (Some (at + fine_len key)) (bad_key_at (at + length key + length value + 2) (t ∷ ts)))
choose at key value rest t ts true is text other h = (fine_len key, refl, bad_first at key (value ++ 0 ∷ rest) text is)
choose at key value rest t ts false is text other h = onto_pair at key value rest t ts (bad_key_at (at + length key + length value + 2) (t ∷ ts)) (key_pair key value is other) h

walk : (at place : ℕ) (ts : List (List ℕ)) → AllByRecursion HasNoZero ts → torn_at false place ts ≡ None → Walked at (join_with_byte 0 ts) ts (bad_key_at at ts)
walk at place [] are torn = record { each = All-nil IsPair; spelled = refl }
walk at place (rest ∷ []) are torn = record { each = All-nil IsPair; spelled = sym (no_bytes place rest torn) }
walk at place (key ∷ value ∷ []) are torn = absurd (nothing (place + length key + 1) 0 torn)
walk at place (key ∷ value ∷ t ∷ ts) are torn =
    choose at key value (join_with_byte 0 (t ∷ ts)) t ts (is_bad key) refl are.0 are.1.0 (walk (at + length key + length value + 2) (place + length key + 1 + length value + 1) (t ∷ ts) are.1.1 torn)

texts_are : (bytes : List ℕ) → AllByRecursion HasNoZero (texts_in bytes)
texts_are bytes =
    let h = cut_of bytes in
    recursion_from_All HasNoZero (texts_in bytes) (All-same HasNoZero (texts_in bytes) (h.texts ++ h.rest ∷ []) (cut_is bytes h) (All-append HasNoZero h.texts (h.rest ∷ []) h.each (All-cons HasNoZero h.rest [] h.open_text (All-nil HasNoZero))))

walked : (bytes : List ℕ) → torn_at false 0 (texts_in bytes) ≡ None → Walked 0 bytes (texts_in bytes) (bad_key_at 0 (texts_in bytes))
walked bytes torn = subst (λ t. Walked 0 t (texts_in bytes) (bad_key_at 0 (texts_in bytes))) (join_with_byte-slice_split 0 bytes) (walk 0 0 (texts_in bytes) (texts_are bytes) torn)

-- ---- together

not_torn : (bytes : List ℕ) → torn_at false 0 (texts_in bytes) ≡ None → (torn : ℕ) → IsTornAt bytes torn → ⊥
not_torn bytes e torn h = nothing torn 0 (sym (torn_back bytes torn h) ∙ e)

at_place : (bytes : List ℕ) (place : ℕ) → (q : ℕ) × (0 + q ≡ place) × IsBadKeyAt bytes q → IsBadKeyAt bytes place
at_place bytes place (q, e, h) = subst (IsBadKeyAt bytes) ((let z : q ≡ 0 + q = omega arith in z) ∙ e) h

by_key : (bytes : List ℕ) → torn_at false 0 (texts_in bytes) ≡ None → (k : Option ℕ) → Walked 0 bytes (texts_in bytes) k → IsFirstFault bytes (first_of None k)
by_key bytes torn None h = (pairs_of (texts_in bytes), h)
by_key bytes torn (Some place) h = (at_place bytes place h, not_torn bytes torn)

by_torn : (bytes : List ℕ) (t : Option ℕ) → torn_at false 0 (texts_in bytes) ≡ t → IsFirstFault bytes (first_of t (bad_key_at 0 (texts_in bytes)))
by_torn bytes None is = by_key bytes is (bad_key_at 0 (texts_in bytes)) (walked bytes is)
by_torn bytes (Some place) is = torn_forth bytes place is

pub first_forth : (bytes : List ℕ) → IsFirstFault bytes (pairs_fault bytes)
unfolding pairs_fault
first_forth bytes = by_torn bytes (torn_at false 0 (texts_in bytes)) refl

none_torn : (bytes : List ℕ) → ((torn : ℕ) → IsTornAt bytes torn → ⊥) → (t : Option ℕ) → torn_at false 0 (texts_in bytes) ≡ t → t ≡ None
none_torn bytes never None is = refl
none_torn bytes never (Some place) is = absurd (never place (torn_forth bytes place is))

pub first_back : (bytes : List ℕ) (fault : Option Cause) → IsFirstFault bytes fault → pairs_fault bytes ≡ fault
unfolding pairs_fault
first_back bytes None (ps, h) = (spelled_read bytes ps h).0
first_back bytes (Some (BadPairs place)) h = ap (λ t. first_of t (bad_key_at 0 (texts_in bytes))) (torn_back bytes place h)
first_back bytes (Some (BadKey place)) (h, never) =
    let none = none_torn bytes never (torn_at false 0 (texts_in bytes)) refl in
    let key = bad_back bytes place h none in λ i. first_of (none i) (key i)
first_back bytes (Some other) h = elim h [ ]

pub first_fault_is_computed : FirstFaultIsComputed
first_fault_is_computed bytes fault = (λ e. subst (IsFirstFault bytes) e (first_forth bytes), first_back bytes fault)

read_forth : (bytes : List ℕ) (ps : List Pair) → pairs_fault bytes ≡ None → pairs_in bytes ≡ ps → SpellPairs bytes ps
read_forth bytes ps none is =
    let (qs, h) = subst (IsFirstFault bytes) none (first_forth bytes) in subst (SpellPairs bytes) (sym (spelled_read bytes qs h).1 ∙ is) h

pub pairs_are_read : PairsAreRead
pairs_are_read bytes ps = ((λ h. read_forth bytes ps h.0 h.1), spelled_read bytes ps)
