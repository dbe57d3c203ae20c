-- Emulators stay well formed, whatever pairs and contexts come.
use Rattle.mig_libxl_form.proofs.Common.{◌≡◌, ℕ, ◌+◌, ◌≤◌, ◌<◌, List, [], ◌∷◌, ◌++◌, length, Option, Some, None, refl, sym, subst, arith, unwrap_or, nat_cmp, AreBytes, Pair, PartKey, part_total, part_exact, pairs_fault, PairMap, text_of_map, put_pairs, pairs_are_read, some_bytes_are_some_pairs, EmulatorsOf, store_at, add_pairs, AreEmulators, ◌∙◌, no_emulators, slice_cmp, none-some, insert_holds, maps_are_of_pairs, IsEmulatorKey, IsStore, most_pairs, most_body, AllByRecursion, flat_map, entries-insert, nat_list_cmp_total, All-from_recursion, recursion_from_All, text_of_pair}
use Rattle.std.specs.declared.cmp.Ordering.TheVariants.{Equal, Less, Greater}
use Rattle.std.specs.FinMap.Entries.{put, by_order}
use Rattle.mig_bytes.proofs.ByteLists.{Bytes, bytes_front, bytes_back}
use Rattle.mig_policy.specs.PairMaps.{IsOfPairs, text_of_entry, pairs_in}
use Rattle.std.specs.FinMap as maps

-- ---- the text of a map is of bytes

abbrev Entry : Type 0
Entry = List ℕ × List ℕ

abbrev IsByteEntry : Entry → Type 0
IsByteEntry e = Bytes e.0 × Bytes e.1

abbrev IsBytePair : Pair → Type 0
IsBytePair p = Bytes p.key × Bytes p.value

both_bytes : (xs ys : List ℕ) → Bytes xs → Bytes ys → Bytes (xs ++ ys)
both_bytes [] ys h k = k
both_bytes (x ∷ xs) ys h k = (h.0, both_bytes xs ys h.1 k)

-- a pair's key and value in its text
pair_bytes : (key value rest : List ℕ) → Bytes ((key ++ 0 ∷ (value ++ 0 ∷ [])) ++ rest) → (Bytes key × Bytes value) × Bytes rest
pair_bytes key value rest h =
    let text = bytes_front _ (key ++ 0 ∷ (value ++ 0 ∷ [])) rest refl h in
    let back = bytes_back _ key (0 ∷ (value ++ 0 ∷ [])) refl text in
    ((bytes_front _ key (0 ∷ (value ++ 0 ∷ [])) refl text, bytes_front _ value (0 ∷ []) refl back.1), bytes_back _ (key ++ 0 ∷ (value ++ 0 ∷ [])) rest refl h)

entries_bytes : (es : List Entry) → Bytes (flat_map text_of_entry es) → AllByRecursion IsByteEntry es
entries_bytes [] h = tt
entries_bytes (e ∷ es) h = let b = pair_bytes e.0 e.1 (flat_map text_of_entry es) h in (b.0, entries_bytes es b.1)

pairs_bytes : (ps : List Pair) → Bytes (flat_map text_of_pair ps) → AllByRecursion IsBytePair ps
pairs_bytes [] h = tt
pairs_bytes (p ∷ ps) h = let b = pair_bytes p.key p.value (flat_map text_of_pair ps) h in (b.0, pairs_bytes ps b.1)

text_bytes : (es : List Entry) → AllByRecursion IsByteEntry es → Bytes (flat_map text_of_entry es)
text_bytes [] h = tt
text_bytes (e ∷ es) h =
    both_bytes (e.0 ++ 0 ∷ (e.1 ++ 0 ∷ [])) (flat_map text_of_entry es) (both_bytes e.0 (0 ∷ (e.1 ++ 0 ∷ [])) h.0.0 (omega arith, both_bytes e.1 (0 ∷ []) h.0.1 (omega arith, tt))) (text_bytes es h.1)

put_bytes : (k v : List ℕ) (es : List Entry) → Bytes k → Bytes v → AllByRecursion IsByteEntry es → AllByRecursion IsByteEntry (put (slice_cmp nat_cmp) k v es)
put_bytes k v [] key value each = ((key, value), tt)
put_bytes k v (e ∷ es) key value each =
    elim (slice_cmp nat_cmp k e.0) as (λ o. AllByRecursion IsByteEntry (by_order o ((k, v) ∷ e ∷ es) ((e.0, v) ∷ es) (e ∷ put (slice_cmp nat_cmp) k v es))) [
      | Less ↦ ((key, value), each)
      | Equal ↦ ((each.0.0, value), each.1)
      | Greater ↦ (each.0, put_bytes k v es key value each.1)
    ]

puts_bytes : (m : PairMap) (ps : List Pair) → AllByRecursion IsBytePair ps → AllByRecursion IsByteEntry (maps.entries m) → AllByRecursion IsByteEntry (maps.entries (put_pairs m ps))
puts_bytes m [] are each = each
puts_bytes m (p ∷ ps) are each =
    puts_bytes (maps.insert m p.key p.value) ps are.1 (subst (AllByRecursion IsByteEntry) (sym (entries-insert nat_list_cmp_total m p.key p.value)) (put_bytes p.key p.value (maps.entries m) are.0.0 are.0.1 each))

added_bytes : (m : PairMap) (slice : List ℕ) → pairs_fault slice ≡ None → AreBytes (text_of_map m) → AreBytes slice → AreBytes (text_of_map (put_pairs m (pairs_in slice)))
added_bytes m slice none text are =
    let spelled = ((pairs_are_read slice (pairs_in slice)).0 (none, refl)).spelled in
    let ps : AllByRecursion IsBytePair (pairs_in slice) = pairs_bytes (pairs_in slice) (subst Bytes (sym spelled) (recursion_from_All (λ b. b < 256) slice are)) in
    All-from_recursion (λ b. b < 256) (text_of_map (put_pairs m (pairs_in slice)))
    (text_bytes (maps.entries (put_pairs m (pairs_in slice))) (puts_bytes m (pairs_in slice) ps (entries_bytes (maps.entries m) (recursion_from_All (λ b. b < 256) (text_of_map m) text))))

-- ---- an emulator's store

-- a store, or an empty one
record IsOld (m : PairMap) : Type 0 where
  pairs : IsOfPairs m
  small : length (text_of_map m) ≤ most_pairs
  bytes : AreBytes (text_of_map m)

old_of : (key : PartKey) (o : Option PairMap) → ((m : PairMap) → o ≡ Some m → IsEmulatorKey 258 key × IsStore m) → IsOld (unwrap_or o maps.empty)
old_of key None is = record {
  pairs = maps_are_of_pairs.none;
  small = subst (λ l. length l ≤ most_pairs) (sym maps_are_of_pairs.empty) (omega arith);
  bytes = subst AreBytes (sym maps_are_of_pairs.empty) (All-from_recursion (λ b. b < 256) [] tt);
}
old_of key (Some m) is = let s = (is m refl).1 in record { pairs = s.pairs; small = s.small; bytes = s.bytes }

old_store : (e : EmulatorsOf) (key : PartKey) → AreEmulators e → IsOld (store_at e.stores key)
old_store e key are = old_of key (maps.get e.stores key) (are.stores key)

pub store_small : (e : EmulatorsOf) (key : PartKey) → AreEmulators e → length (text_of_map (store_at e.stores key)) ≤ most_pairs
store_small e key are = (old_store e key are).small

-- where there are pairs there are bytes
some_slice : (l : List ℕ) (p : Pair) (ps : List Pair) → pairs_in l ≡ p ∷ ps → 0 < length l
unfolding pairs_in
some_slice [] p ps e = let no : ◌≡◌ {A = List Pair} [] (p ∷ ps) = e in cc
some_slice (b ∷ bs) p ps e = omega arith

-- ---- emulators of which one has more

module _ (e new : EmulatorsOf) (slice : List ℕ) (id index : ℕ) (before : AreEmulators e) (known : id < 3) (small : index < 256) where
  pub context_kept : new ≡ record e { contexts = maps.insert e.contexts (record { code = 259; key1 = id; key2 = index }) slice } → length slice + 8 ≤ most_body → AreBytes slice → AreEmulators new
  context_kept is short are =
      subst AreEmulators (sym is) (record {
        stores = before.stores;
        contexts = insert_holds part_total part_exact (λ key bytes. IsEmulatorKey 259 key × (length bytes + 8 ≤ most_body) × AreBytes bytes) e.contexts (record { code = 259; key1 = id; key2 = index }) slice before.contexts
            (record { is = refl; known = known; small = small }, short, are);
      })

  pub pairs_kept : new ≡ add_pairs e (record { code = 258; key1 = id; key2 = index }) (pairs_in slice) → pairs_fault slice ≡ None
      → length (text_of_map (put_pairs (store_at e.stores (record { code = 258; key1 = id; key2 = index })) (pairs_in slice))) ≤ most_pairs → AreBytes slice → AreEmulators new
  pairs_kept is none fits are = subst AreEmulators (sym is) (by_pairs (pairs_in slice) refl)
    where
      key : PartKey
      key = record { code = 258; key1 = id; key2 = index }

      by_pairs : (qs : List Pair) → pairs_in slice ≡ qs → AreEmulators (add_pairs e key qs)
      by_pairs [] all = before
      by_pairs (p ∷ ps) all =
          let old = old_store e key before in
          let m = store_at e.stores key in
          let store : IsStore (put_pairs m (pairs_in slice)) = record {
            pairs = maps_are_of_pairs.added m slice old.pairs none;
            some = some_bytes_are_some_pairs.text m slice none (some_slice slice p ps all);
            small = fits;
            bytes = added_bytes m slice none old.bytes are;
          } in record {
            stores = insert_holds part_total part_exact (λ k s. IsEmulatorKey 258 k × IsStore s) e.stores key (put_pairs m (p ∷ ps)) before.stores
                (record { is = refl; known = known; small = small }, subst (λ qs. IsStore (put_pairs m qs)) all store);
            contexts = before.contexts;
          }

-- ---- no emulators

pub none_yet : AreEmulators no_emulators
none_yet = record {
  stores = λ key m is. absurd (none-some m (sym (maps.get-empty _ key) ∙ is));
  contexts = λ key bytes is. absurd (none-some bytes (sym (maps.get-empty _ key) ∙ is));
}
