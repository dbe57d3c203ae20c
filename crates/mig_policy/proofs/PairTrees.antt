-- A tree of keys and values, seen as a map of pairs, and how many bytes spell it.
use Rattle.mig_policy.proofs.Common.{◌≡◌, ℕ, ◌+◌, ◌≤◌, List, [], ◌∷◌, ◌++◌, append_assoc, cond, drop, length, map, Some, None, refl, sym, ap, subst, ◌∙◌, arith, T, flat_map, Ordering, Less, Equal, Greater, nat_cmp, slice_cmp, nat_list_cmp_total, entries-insert, same_entries_map, put, is_sorted, common_steps, Pair, PairMap, AreSetBefore, put_pair, put_pairs, pairs_in, shown, pairs_seen, text_of_entry, text_of_map, Global, is_eq, match_ordering, entries-from_sorted, len-entries, len-empty, is_sorted-put, fold-append}
use Rattle.std.proofs.lemmas.Option.{none-some, same_Some}
use Rattle.std.proofs.lemmas.List.{nil_from_length}
use Rattle.std.specs.declared.vec.Vec.{Vec}
use Rattle.std.specs.BTreeMap.{insert_entry, is_at}
use Rattle.std.specs.Map.{keys_of, lookup}
use Rattle.std.specs.FinMap as maps

abbrev pub Key : Type 0
Key = Vec ℕ Global

abbrev pub Value : Type 0
Value = Vec ℕ Global

abbrev pub keys_cmp : Key → Key → Ordering
keys_cmp x y = slice_cmp nat_cmp x.items y.items

abbrev pub IsInOrder : List (Key × Value) → Type 0
IsInOrder es = T (is_sorted (slice_cmp nat_cmp) (map shown es))

abbrev pub Insert : List (Key × Value) → Key → Value → List (Key × Value)
Insert es k v = insert_entry keys_cmp es k v

one_entry : (k : Key) (v : Value) (e : Key × Value) (es : List (Key × Value)) (o : Ordering) → keys_cmp k e.0 ≡ o → map shown (Insert es k v) ≡ put (slice_cmp nat_cmp) k.items v.items (map shown es)
    → map shown (Insert (e ∷ es) k v) ≡ put (slice_cmp nat_cmp) k.items v.items (map shown (e ∷ es))
one_entry k v e es Less is rest = rw is refl
one_entry k v e es Equal is rest = rw is refl
one_entry k v e es Greater is rest = rw is (ap (λ fs. shown e ∷ fs) rest)

-- what the tree inserts is put among the entries
shown_insert : (es : List (Key × Value)) (k : Key) (v : Value) → map shown (Insert es k v) ≡ put (slice_cmp nat_cmp) k.items v.items (map shown es)
shown_insert [] k v = refl
shown_insert (e ∷ es) k v = one_entry k v e es (keys_cmp k e.0) refl (shown_insert es k v)

seen_entries : (es : List (Key × Value)) → IsInOrder es → maps.entries (pairs_seen es) ≡ map shown es
seen_entries es order = entries-from_sorted (slice_cmp nat_cmp) (map shown es) order

pub insert_order : (es fs : List (Key × Value)) (k : Key) (v : Value) → fs ≡ Insert es k v → IsInOrder es → IsInOrder fs
insert_order es fs k v is order =
    subst (λ gs. T (is_sorted (slice_cmp nat_cmp) gs)) (sym (ap (map shown) is ∙ shown_insert es k v)) (is_sorted-put (slice_cmp nat_cmp) nat_list_cmp_total k.items v.items (map shown es) order)

pub insert_seen : (es fs : List (Key × Value)) (k : Key) (v : Value) (key value : List ℕ) → k.items ≡ key → v.items ≡ value → fs ≡ Insert es k v → IsInOrder es → pairs_seen fs ≡ maps.insert (pairs_seen es) key value
insert_seen es fs k v key value is_key is_value is order =
    same_entries_map (pairs_seen fs) (maps.insert (pairs_seen es) k.items v.items)
    (seen_entries fs (insert_order es fs k v is order) ∙ ap (map shown) is ∙ shown_insert es k v ∙ sym (ap (put (slice_cmp nat_cmp) k.items v.items) (seen_entries es order)) ∙ sym (entries-insert nat_list_cmp_total (pairs_seen es) k.items v.items))
    ∙ (λ i. maps.insert (pairs_seen es) (is_key i) (is_value i))

-- ---- how many bytes

abbrev pub text_len : List (Key × Value) → ℕ
text_len es = length (flat_map text_of_entry (map shown es))

pub seen_len : (es : List (Key × Value)) → IsInOrder es → length (text_of_map (pairs_seen es)) ≡ text_len es
seen_len es order = ap (λ fs. length (flat_map text_of_entry fs)) (seen_entries es order)

one_len : (e : Key × Value) (es : List (Key × Value)) → text_len (e ∷ es) ≡ length e.0.items + length e.1.items + 2 + text_len es
one_len e es = grind (arith, common_steps)

onto : (o : Ordering) (k : Key) (v : Value) (e : Key × Value) (es : List (Key × Value)) → keys_cmp k e.0 ≡ o → Insert (e ∷ es) k v ≡ match_ordering o ((k, v) ∷ e ∷ es) ((e.0, v) ∷ es) (e ∷ Insert es k v)
onto o k v e es is = ap (λ r. match_ordering r ((k, v) ∷ e ∷ es) ((e.0, v) ∷ es) (e ∷ Insert es k v)) is

found : (o : Ordering) (k : Key) (e : Key × Value) (es : List (Key × Value)) → keys_cmp k e.0 ≡ o → lookup (is_at (keys_cmp k)) (e ∷ es) ≡ cond (is_eq o) (Some e.1) (lookup (is_at (keys_cmp k)) es)
found o k e es is = ap (λ r. cond (is_eq r) (Some e.1) (lookup (is_at (keys_cmp k)) es)) is

-- a key that wasn't there
pub grown : (es : List (Key × Value)) (k : Key) (v : Value) → lookup (is_at (keys_cmp k)) es ≡ None → text_len (Insert es k v) ≡ text_len es + length k.items + length v.items + 2
grown [] k v none = let h = one_len (k, v) [] in omega (arith, h)
grown (e ∷ es) k v none = by (keys_cmp k e.0) refl (grown es k v)
  where
    by : (o : Ordering) → keys_cmp k e.0 ≡ o → (lookup (is_at (keys_cmp k)) es ≡ None → text_len (Insert es k v) ≡ text_len es + length k.items + length v.items + 2)
        → text_len (Insert (e ∷ es) k v) ≡ text_len (e ∷ es) + length k.items + length v.items + 2
    by Less is rest = let h = one_len (k, v) (e ∷ es) in let same = ap text_len (onto Less k v e es is) in omega (arith, h, same)
    by Equal is rest = absurd (none-some e.1 (sym none ∙ found Equal k e es is))
    by Greater is rest =
        let more = rest (sym (found Greater k e es is) ∙ none) in let h = one_len e es in let g = one_len e (Insert es k v) in let same = ap text_len (onto Greater k v e es is) in
        omega (arith, h, g, same, more)

-- a key that was there keeps its place
pub replaced : (es : List (Key × Value)) (k : Key) (v old : Value) → lookup (is_at (keys_cmp k)) es ≡ Some old → keys_of (Insert es k v) ≡ keys_of es
    → (text_len (Insert es k v) + length old.items ≡ text_len es + length v.items) × (length old.items ≤ text_len es)
replaced [] k v old some keys = absurd (none-some old some)
replaced (e ∷ es) k v old some keys = by (keys_cmp k e.0) refl (replaced es k v old)
  where
    by : (o : Ordering) → keys_cmp k e.0 ≡ o
        → (lookup (is_at (keys_cmp k)) es ≡ Some old → keys_of (Insert es k v) ≡ keys_of es → (text_len (Insert es k v) + length old.items ≡ text_len es + length v.items) × (length old.items ≤ text_len es))
        → (text_len (Insert (e ∷ es) k v) + length old.items ≡ text_len (e ∷ es) + length v.items) × (length old.items ≤ text_len (e ∷ es))
    by Less is rest = let same : length (keys_of ((k, v) ∷ e ∷ es)) ≡ length (keys_of (e ∷ es)) = ap (λ fs. length (keys_of fs)) (sym (onto Less k v e es is)) ∙ ap length keys in absurd (omega (arith, same))
    by Equal is rest =
        let it = ap (λ (x : Value). length x.items) (same_Some e.1 old (sym (found Equal k e es is) ∙ some)) in
        let h = one_len e es in let g = one_len (e.0, v) es in let same = ap text_len (onto Equal k v e es is) in
        (omega (arith, h, g, same, it), omega (arith, h, it))
    by Greater is rest =
        let more = rest (sym (found Greater k e es is) ∙ some) (ap (drop 1) (sym (ap keys_of (onto Greater k v e es is)) ∙ keys)) in
        let h = one_len e es in let g = one_len e (Insert es k v) in let same = ap text_len (onto Greater k v e es is) in let a = more.0 in let b = more.1 in
        (omega (arith, h, g, same, a), omega (arith, h, b))

-- ---- a pair set in the tree of a map

-- where the key wasn't there
pub set_new : (es fs : List (Key × Value)) (k : Key) (v : Value) (key value : List ℕ) (n : ℕ) → k.items ≡ key → v.items ≡ value → fs ≡ Insert es k v → IsInOrder es → n ≡ length (text_of_map (pairs_seen es))
    → lookup (is_at (keys_cmp k)) es ≡ None → n + (length key + length value + 2) ≡ length (text_of_map (pairs_seen fs))
set_new es fs k v key value n is_key is_value is order len none =
    let a = ap length is_key in let b = ap length is_value in let h = grown es k v none in let f = ap text_len is in
    let before = seen_len es order in let after = seen_len fs (insert_order es fs k v is order) in omega (arith, len, a, b, h, f, before, after)

-- where it was
pub set_old : (es fs : List (Key × Value)) (k : Key) (v old : Value) (value : List ℕ) (n : ℕ) → v.items ≡ value → fs ≡ Insert es k v → IsInOrder es → n ≡ length (text_of_map (pairs_seen es))
    → lookup (is_at (keys_cmp k)) es ≡ Some old → keys_of fs ≡ keys_of es → (length old.items ≤ n) × (n + length value ≡ length (text_of_map (pairs_seen fs)) + length old.items)
set_old es fs k v old value n is_value is order len some keys =
    let b = ap length is_value in let h = replaced es k v old some (sym (ap keys_of is) ∙ keys) in let p = h.0 in let q = h.1 in let f = ap text_len is in
    let before = seen_len es order in let after = seen_len fs (insert_order es fs k v is order) in (omega (arith, len, q, before), omega (arith, len, b, p, f, before, after))

-- ---- a tree without entries

pub no_entries : maps.entries (maps.empty {X = List ℕ} {R = slice_cmp nat_cmp}) ≡ []
no_entries = nil_from_length _ (sym (len-entries (maps.empty {X = List ℕ} {R = slice_cmp nat_cmp})) ∙ len-empty (slice_cmp nat_cmp) (List ℕ))

pub none_seen : (es : List (Key × Value)) → es ≡ [] → pairs_seen es ≡ maps.empty
none_seen es none = same_entries_map (pairs_seen es) maps.empty (seen_entries es (subst IsInOrder (sym none) tt) ∙ ap (map shown) none ∙ sym no_entries)

pub none_kept : (es : List (Key × Value)) → es ≡ [] → IsInOrder es × (0 ≡ length (text_of_map (pairs_seen es)))
none_kept es none = subst (λ fs. IsInOrder fs × (0 ≡ length (text_of_map (pairs_seen fs)))) (sym none) (tt, sym (seen_len [] tt))

-- ---- all pairs of some bytes

-- the text of a map as the tree gives its entries
pub seen_text : (es : List (Key × Value)) (m : PairMap) → IsInOrder es → pairs_seen es ≡ m → flat_map text_of_entry (map shown es) ≡ text_of_map m
seen_text es m order view = sym (ap (flat_map text_of_entry) (seen_entries es order)) ∙ ap text_of_map view

-- one more pair
pub one_more : (m n all : PairMap) (key value rest behind : List ℕ) → pairs_in rest ≡ record { key = key; value = value } ∷ pairs_in behind → n ≡ maps.insert m key value → put_pairs m (pairs_in rest) ≡ all → put_pairs n (pairs_in behind) ≡ all
one_more m n all key value rest behind first is same = ap (λ o. put_pairs o (pairs_in behind)) is ∙ sym (ap (put_pairs m) first) ∙ same

pub one_more_set : (before m n : PairMap) (key value rest behind : List ℕ) (all : List Pair) → pairs_in rest ≡ record { key = key; value = value } ∷ pairs_in behind → n ≡ maps.insert m key value → AreSetBefore before m (pairs_in rest) all → AreSetBefore before n (pairs_in behind) all
one_more_set before m n key value rest behind all first is h =
    let p : Pair = record { key = key; value = value } in
    record {
      done = h.done ++ p ∷ [];
      whole = append_assoc h.done (p ∷ []) (pairs_in behind) ∙ ap (λ ps. h.done ++ ps) (sym first) ∙ h.whole;
      set = is ∙ ap (λ (o : PairMap). maps.insert o key value) h.set ∙ sym (fold-append put_pair before h.done (p ∷ []));
    }

pub empty_len : (m : PairMap) → m ≡ maps.empty → length (text_of_map m) ≡ 0
empty_len m is = ap (λ (n : PairMap). length (text_of_map n)) is ∙ ap (λ es. length (flat_map text_of_entry es)) no_entries
