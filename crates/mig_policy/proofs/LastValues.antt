-- Where pairs are added, the last of a key decides.
use Rattle.mig_policy.proofs.Common.{◌≡◌, ℕ, List, [], ◌∷◌, Option, Some, None, false, refl, sym, ap, ◌∙◌, arith, cond, Bool, true, common_steps, slice_cmp, nat_list_cmp_total, entries_sorted, same_entries_map, flat_map, nat_cmp, if◌then◌else◌, Pair, AreCanonicalPairs, AreRising, text_of_pair, SpellPairs, PairMap, IsOfPairs, put_pair, put_pairs, pair_of, text_of_entry, text_of_map, map_of, merged, nat_cmp-IsAntisymmetric, slice_cmp-IsAntisymmetric, eq_by_cmp}
use Rattle.std.proofs.lemmas.Cmp.{eq_by_cmp_equiv}
use Rattle.std.proofs.lemmas.Map.Text.{is_eq-slice_cmp}
use Rattle.std.specs.Option.{option_or}
use Rattle.std.specs.Prelude.{map}
use Rattle.std.specs.Str.{bytes_eq}
use Rattle.mig_guest.proofs.KeyedMaps.{tied}
use Rattle.mig_guest.proofs.PartOrder.{part_exact, part_total}
use Rattle.mig_guest.proofs.PartSets.{put_there}
use Rattle.mig_guest.specs.Order.{part_cmp}
use Rattle.mig_guest.specs.Parts.{PartMap}
use Rattle.mig_guest.specs.declared.part_key.PartKey.{PartKey}
use Rattle.mig_policy.specs.PairMaps.{pairs_in, part_bytes, with_pairs, last_pair_value, value_in_part, AddedPairsDecide}
use Rattle.mig_policy.proofs.KeyLaws.{spelled_read}
use Rattle.mig_policy.proofs.PairMapLaws.{map_entries, maps_are_of_pairs, rises, same_entries_again, text_entries, texts_are_canonical}
use Rattle.std.specs.FinMap as maps

or_none : (o : Option (List ℕ)) → option_or o None ≡ o
or_none None = refl
or_none (Some x) = refl

-- ---- in a map

pair_put : (m : PairMap) (p : Pair) (k : List ℕ) → maps.get (put_pair m p) k ≡ option_or (if bytes_eq p.key k then Some p.value else None) (maps.get m k)
pair_put m p k = grind (arith, common_steps, maps.get-insert nat_list_cmp_total m p.key p.value k, is_eq-slice_cmp k p.key ∙ turned k p.key)
  where
    turned : (xs ys : List ℕ) → bytes_eq xs ys ≡ bytes_eq ys xs
    turned xs ys = sym (is_eq-slice_cmp xs ys) ∙ (eq_by_cmp_equiv nat_list_cmp_total).symm xs ys ∙ is_eq-slice_cmp ys xs

pub values_put : (m : PairMap) (ps : List Pair) (k : List ℕ) → maps.get (put_pairs m ps) k ≡ option_or (last_pair_value k ps) (maps.get m k)
values_put m [] k = refl
values_put m (p ∷ ps) k = grind (arith, common_steps, values_put (put_pair m p) ps k, pair_put m p k)

-- ---- in a part

-- the map of some bytes has the last values in them
value_of_map : (bytes k : List ℕ) → maps.get (map_of bytes) k ≡ last_pair_value k (pairs_in bytes)
value_of_map bytes k =
    values_put maps.empty (pairs_in bytes) k ∙ ap (option_or (last_pair_value k (pairs_in bytes))) (maps.get-empty (slice_cmp nat_cmp) k) ∙ or_none (last_pair_value k (pairs_in bytes))

-- the text of a map has the values of the map
value_in_text : (m : PairMap) (k : List ℕ) → IsOfPairs m → last_pair_value k (pairs_in (text_of_map m)) ≡ maps.get m k
value_in_text m k are = sym (value_of_map (text_of_map m) k) ∙ ap (λ (n : PairMap). maps.get n k) (texts_are_canonical.read m are)

no_pairs : pairs_in [] ≡ []
unfolding pairs_in
no_pairs = refl

in_part : (parts : PartMap) (key : PartKey) (bytes : List ℕ) (pairs : List Pair) (k : List ℕ) → AreCanonicalPairs (part_bytes (maps.get parts key)) → SpellPairs bytes pairs
    → value_in_part (with_pairs parts key bytes) key k ≡ option_or (last_pair_value k pairs) (value_in_part parts key k)
in_part parts key [] pairs k canonical spelled = ap (λ ps. option_or (last_pair_value k ps) (value_in_part parts key k)) (sym no_pairs ∙ (spelled_read [] pairs spelled).1)
in_part parts key (b ∷ bs) pairs k canonical spelled =
    let part = part_bytes (maps.get parts key) in
    let read = spelled_read (b ∷ bs) pairs spelled in
    let m = merged part (b ∷ bs) in
    ap (λ o. last_pair_value k (pairs_in (part_bytes o))) (put_there parts key (text_of_map m))
    ∙ value_in_text m k (maps_are_of_pairs.added (map_of part) (b ∷ bs) (maps_are_of_pairs.spelled part canonical) read.0)
    ∙ values_put (map_of part) (pairs_in (b ∷ bs)) k
    ∙ ap (λ ps. option_or (last_pair_value k ps) (maps.get (map_of part) k)) read.1
    ∙ ap (option_or (last_pair_value k pairs)) (value_of_map part k)

other_part : (parts : PartMap) (key other : PartKey) (bytes : List ℕ) → (other ≡ key → ⊥) → maps.get (with_pairs parts key bytes) other ≡ maps.get parts other
other_part parts key other [] ne = refl
other_part parts key other (b ∷ bs) ne =
    maps.get-insert part_total parts key (text_of_map (merged (part_bytes (maps.get parts key)) (b ∷ bs))) other
    ∙ by (eq_by_cmp part_cmp other key) refl
  where
    by : (t : Bool) → eq_by_cmp part_cmp other key ≡ t → cond t (Some (text_of_map (merged (part_bytes (maps.get parts key)) (b ∷ bs)))) (maps.get parts other) ≡ maps.get parts other
    by false is = refl
    by true is = absurd (ne (part_exact other key (tied (part_cmp other key) is)))

pub added_pairs_decide : AddedPairsDecide
added_pairs_decide = record { map = values_put; part = in_part; others = other_part }

-- ---- pairs of a map, in ascending order

module _ (m : PairMap) where
  as_map : (pairs : List Pair) → maps.entries (put_pairs maps.empty pairs) ≡ maps.entries m → (k : List ℕ) → last_pair_value k pairs ≡ maps.get m k
  as_map pairs same k =
      sym (or_none (last_pair_value k pairs)) ∙ ap (option_or (last_pair_value k pairs)) (sym (maps.get-empty (slice_cmp nat_cmp) k)) ∙ sym (values_put maps.empty pairs k)
      ∙ ap (λ (n : PairMap). maps.get n k) (same_entries_map (put_pairs maps.empty pairs) m same)

  -- pairs in ascending order that have the values of a map spell its text
  pub one_text : (pairs : List Pair) → AreRising pairs → ((k : List ℕ) → last_pair_value k pairs ≡ maps.get m k) → flat_map text_of_pair pairs ≡ text_of_map m
  one_text pairs rising values =
      let same : put_pairs maps.empty pairs ≡ m =
      maps.same_map nat_list_cmp_total (slice_cmp-IsAntisymmetric nat_cmp-IsAntisymmetric) (put_pairs maps.empty pairs) m
      (λ k. values_put maps.empty pairs k ∙ ap (option_or (last_pair_value k pairs)) (maps.get-empty (slice_cmp nat_cmp) k) ∙ or_none (last_pair_value k pairs) ∙ values k) in
      sym (text_entries pairs) ∙ ap (flat_map text_of_entry) (sym (map_entries pairs rising)) ∙ ap text_of_map same

  -- and a map has such pairs
  pub map_pairs : List Pair
  map_pairs = map pair_of (maps.entries m)

  pub map_pairs_rise : AreRising map_pairs
  unfolding map_pairs
  map_pairs_rise = rises (maps.entries m) (entries_sorted m)

  pub map_pairs_values : (k : List ℕ) → last_pair_value k map_pairs ≡ maps.get m k
  unfolding map_pairs
  map_pairs_values k = as_map (map pair_of (maps.entries m)) (map_entries (map pair_of (maps.entries m)) (rises (maps.entries m) (entries_sorted m)) ∙ same_entries_again (maps.entries m)) k
