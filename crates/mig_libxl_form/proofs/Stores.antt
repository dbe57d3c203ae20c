-- The stores as their tree lists them, and pairs added to one.
use Rattle.mig_libxl_form.proofs.Common.{◌≡◌, ◌<◌, List, [], ◌∷◌, length, map, cond, Option, Some, None, refl, sym, ap, ◌∙◌, arith, unwrap_or, option_map, Pair, PartKey, part_cmp, PartMap, part_total, part_exact, PairMap, put_pairs, EmulatorsOf, store_at, add_pairs, is_at, stores_seen, shown, entries_seen, get_seen, seen_insert}
use Rattle.std.specs.List.Sorted.{IsStrictlySortedBy}
use Rattle.std.specs.Map.{keys_of, lookup}
use Rattle.mig_policy.specs.PairMaps.{pairs_in}
use Rattle.std.specs.FinMap as maps

abbrev pub Entry : Type 0
Entry = PartKey × PairMap

-- a store is seen as it is
abbrev itself : PartKey → PairMap → PairMap
itself key m = m

same_list : (es : List Entry) → map (shown itself) es ≡ es
same_list [] = refl
same_list (e ∷ es) = ap (λ (l : List Entry). e ∷ l) (same_list es)

same_option : (key : PartKey) (o : Option PairMap) → option_map (itself key) o ≡ o
same_option key None = refl
same_option key (Some m) = refl

-- the store that the list has at a key
abbrev pub store_in : List Entry → PartKey → Option PairMap
store_in es key = lookup (is_at (part_cmp key)) es

pub got_store : (es : List Entry) (key : PartKey) → maps.get (stores_seen es) key ≡ store_in es key
got_store es key = ap (λ l. maps.get (stores_seen l) key) (sym (same_list es)) ∙ get_seen part_total part_exact itself es key ∙ same_option key (store_in es key)

pub put_store : (es fs : List Entry) (key : PartKey) (m : PairMap) → ((q : PartKey) → store_in fs q ≡ cond (is_at (part_cmp key) q) (Some m) (store_in es q)) → stores_seen fs ≡ maps.insert (stores_seen es) key m
put_store es fs key m updates =
    ap stores_seen (sym (same_list fs)) ∙ seen_insert part_total part_exact itself es fs key m updates ∙ ap (λ l. maps.insert (stores_seen l) key m) (same_list es)

-- ---- pairs added

pub no_pairs : pairs_in [] ≡ []
unfolding pairs_in
no_pairs = refl

pub some_added : (e : EmulatorsOf) (key : PartKey) (ps : List Pair) → 0 < length ps → add_pairs e key ps ≡ record e { stores = maps.insert e.stores key (put_pairs (store_at e.stores key) ps) }
some_added e key [] some = absurd (omega (arith, some))
some_added e key (p ∷ ps) some = refl

module _ (es : List Entry) (contexts : PartMap) (e : EmulatorsOf) (view : record { stores = stores_seen es; contexts = contexts } ≡ e) (key : PartKey) where
  pub store_found : (o : Option PairMap) → store_in es key ≡ o → store_at e.stores key ≡ unwrap_or o maps.empty
  store_found o is = ap (λ (x : EmulatorsOf). store_at x.stores key) (sym view) ∙ ap (λ o. unwrap_or o maps.empty) (got_store es key ∙ is)

  pub store_set : (fs : List Entry) (old new : PairMap) (ps : List Pair) → ((q : PartKey) → store_in fs q ≡ cond (is_at (part_cmp key) q) (Some new) (store_in es q)) → store_at e.stores key ≡ old → new ≡ put_pairs old ps
      → 0 < length ps → record { stores = stores_seen fs; contexts = contexts } ≡ add_pairs e key ps
  store_set fs old new ps updates here is some =
      ap (λ s. record { stores = s; contexts = contexts }) (put_store es fs key new updates)
      ∙ ap (λ (x : EmulatorsOf). record x { stores = maps.insert x.stores key new }) view
      ∙ ap (λ m. record e { stores = maps.insert e.stores key m }) (is ∙ ap (λ m. put_pairs m ps) (sym here))
      ∙ sym (some_added e key ps some)

-- ---- the stores one after another

-- as the tree lists them
pub stores_listed : (es : List Entry) (contexts : PartMap) (e : EmulatorsOf) → record { stores = stores_seen es; contexts = contexts } ≡ e → IsStrictlySortedBy part_cmp (keys_of es) → es ≡ maps.entries e.stores
stores_listed es contexts e view order =
    sym (ap (λ l. maps.entries (stores_seen l)) (sym (same_list es)) ∙ entries_seen part_total part_exact itself es order ∙ same_list es) ∙ ap (λ (x : EmulatorsOf). maps.entries x.stores) view
