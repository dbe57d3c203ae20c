-- What is there after an error: the first of some parts, or the first pairs of a store.
use Rattle.mig_libxl_form.proofs.Common.{◌≡◌, List, [], ◌∷◌, ◌++◌, map, refl, sym, ap, ◌∙◌, append_assoc, fold-append, Part, PartMap, put_part, put_parts, GuestOf, EmulatorsOf, emulator_parts, store_part, Bool, true, false, cond, Some, Result, Ok, Err, arith, eq_by_cmp, tied, part_cmp, part_exact, part_total, PartKey, Pair, PairMap, put_pairs, add_pairs, is_at, ArePartsBefore, stores_seen, AreBegun, ArePairsBegun, ArePartsBegun}
use Rattle.std.specs.Result.{OnErr}
use Rattle.mig_libxl_form.proofs.Stores.{Entry, store_in, got_store, put_store, store_found, store_set}
use Rattle.std.specs.FinMap as maps

-- ---- parts

pub none_set : (g : GuestOf) (all : List Part) → ArePartsBefore g g all all
none_set g all = record { done = []; whole = refl; set = refl }

module _ (g h : GuestOf) (p : Part) (now rest : List Part) (first : now ≡ p ∷ rest) (is : h ≡ record g { parts = put_part g.parts p }) where
  -- one more part is set
  pub one_more : (before : GuestOf) (all : List Part) → ArePartsBefore before g now all → ArePartsBefore before h rest all
  one_more before all begun = record {
    done = begun.done ++ p ∷ [];
    whole = append_assoc begun.done (p ∷ []) rest ∙ ap (λ ps. begun.done ++ ps) (sym first) ∙ begun.whole;
    set = is ∙ ap (λ (x : GuestOf). record x { parts = put_part x.parts p }) begun.set ∙ ap (λ (m : PartMap). record before { parts = m }) (sym (fold-append put_part before.parts begun.done (p ∷ [])));
  }

  -- and the others lead to the same
  pub still_leads : (end : GuestOf) → record g { parts = put_parts g.parts now } ≡ end → record h { parts = put_parts h.parts rest } ≡ end
  still_leads end leads = ap (λ (x : GuestOf). record x { parts = put_parts x.parts rest }) is ∙ ap (λ ps. record g { parts = put_parts g.parts ps }) (sym first) ∙ leads

-- the stores are all set, and some contexts
pub contexts_begun : (before g h : GuestOf) (e : EmulatorsOf) → g ≡ record before { parts = put_parts before.parts (map store_part (maps.entries e.stores)) } → ArePartsBegun g h (maps.entries e.contexts) → ArePartsBegun before h (emulator_parts e)
contexts_begun before g h e is (rest, begun) =
    let stores = map store_part (maps.entries e.stores) in (
      rest,
      record {
        done = stores ++ begun.done;
        whole = append_assoc stores begun.done rest ∙ ap (λ ps. stores ++ ps) begun.whole;
        set = begun.set ∙ ap (λ (x : GuestOf). record x { parts = put_parts x.parts begun.done }) is ∙ ap (λ (m : PartMap). record before { parts = m }) (sym (fold-append put_part before.parts stores begun.done));
      },
    )

-- only stores are set
pub stores_begun : (before h : GuestOf) (e : EmulatorsOf) → ArePartsBegun before h (map store_part (maps.entries e.stores)) → ArePartsBegun before h (emulator_parts e)
stores_begun before h e (rest, begun) = (
  rest ++ maps.entries e.contexts,
  record { done = begun.done; whole = sym (append_assoc begun.done rest (maps.entries e.contexts)) ∙ ap (λ ps. ps ++ maps.entries e.contexts) begun.whole; set = begun.set },
)

pub after_error : {T E P : Type 0} (r : Result T E) → P → OnErr r P
after_error (Ok v) p = tt
after_error (Err e) p = p

-- ---- pairs

-- a store that is set again as it is
same_store : (m : maps.FinMap part_cmp PairMap) (key : PartKey) (store : PairMap) → maps.get m key ≡ Some store → maps.insert m key store ≡ m
same_store m key store there = maps.same_map part_total part_exact (maps.insert m key store) m (λ q. maps.get-insert part_total m key store q ∙ at q (eq_by_cmp part_cmp q key) refl)
  where
    at : (q : PartKey) (b : Bool) → eq_by_cmp part_cmp q key ≡ b → cond b (Some store) (maps.get m q) ≡ maps.get m q
    at q false is = refl
    at q true is = sym (ap (maps.get m) (part_exact q key (tied (part_cmp q key) is)) ∙ there)

pub none_added : (e h : EmulatorsOf) (key : PartKey) (all : List Pair) → h ≡ e → ArePairsBegun e h key all
none_added e h key all is = record { done = []; rest = all; whole = refl; added = is }

-- some pairs are in the store that is there
pub store_begun : (es : List Entry) (contexts : PartMap) (e : EmulatorsOf) → record { stores = stores_seen es; contexts = contexts } ≡ e → (key : PartKey) (fs : List Entry) (old new : PairMap) (all : List Pair)
    → ((q : PartKey) → store_in fs q ≡ cond (is_at (part_cmp key) q) (Some new) (store_in es q)) → store_in es key ≡ Some old → AreBegun old new all
    → ArePairsBegun e (record { stores = stores_seen fs; contexts = contexts }) key all
store_begun es contexts e view key fs old new all updates there (rest, begun) = record { done = begun.done; rest = rest; whole = begun.whole; added = by begun.done begun.set }
  where
    by : (done : List Pair) → new ≡ put_pairs old done → record { stores = stores_seen fs; contexts = contexts } ≡ add_pairs e key done
    by [] is =
        ap (λ s. record { stores = s; contexts = contexts }) (put_store es fs key new updates ∙ ap (maps.insert (stores_seen es) key) is ∙ same_store (stores_seen es) key old (got_store es key ∙ there)) ∙ view
    by (p ∷ ps) is = store_set es contexts e view key fs old new (p ∷ ps) updates (store_found es contexts e view key (Some old) there) is (omega arith)
