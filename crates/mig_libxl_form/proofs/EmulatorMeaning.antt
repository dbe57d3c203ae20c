-- Of each emulator the last context decides, and of each key of its store the last pair.
use Rattle.mig_libxl_form.proofs.Common.{◌≡◌, ℕ, Bool, true, false, cond, List, [], ◌∷◌, ◌++◌, Option, Some, None, refl, sym, ap, ◌∙◌, unwrap_or, option_or, nat_cmp, eq_by_cmp, Pair, part_cmp, PartMap, PartKey, tied, part_total, part_exact, PairMap, put_pairs, LibxlRecord, LibxlContent, Image, Pairs, Context, EmulatorsOf, no_emulators, store_at, add_pairs, put_libxl_content, common_steps, arith, slice_cmp, Nothing, or_none, fold, option_and_then, last_pair_value, same_key, part_ties}
use Rattle.mig_policy.proofs.LastValues.{values_put}
use Rattle.mig_libxl_form.specs.Emulators.{emulators_of, context_in, last_context, pairs_for, pairs_said, value_in_store}
use Rattle.std.specs.FinMap as maps

pub either_of : (a b c : Option (List ℕ)) → option_or a (option_or b c) ≡ option_or (option_or a b) c
either_of None b c = refl
either_of (Some x) b c = refl

abbrev all_put : EmulatorsOf → List LibxlRecord → EmulatorsOf
all_put e records = fold (λ e r. put_libxl_content e r.content) e records

-- ---- contexts

-- pairs set no context
same_contexts : (e : EmulatorsOf) (key : PartKey) (ps : List Pair) → (add_pairs e key ps).contexts ≡ e.contexts
same_contexts e key [] = refl
same_contexts e key (p ∷ ps) = refl

context_said : (e : EmulatorsOf) (key : PartKey) (c : LibxlContent) → maps.get (put_libxl_content e c).contexts key ≡ option_or (context_in key c) (maps.get e.contexts key)
context_said e key Nothing = refl
context_said e key (Image image) = refl
context_said e key (Pairs k ps) = ap (λ (m : PartMap). maps.get m key) (same_contexts e k ps)
context_said e key (Context k bytes) = grind (arith, common_steps, maps.get-insert part_total e.contexts k bytes key, part_ties key k)

contexts_put : (e : EmulatorsOf) (key : PartKey) (rs : List LibxlRecord) → maps.get (all_put e rs).contexts key ≡ option_or (last_context key rs) (maps.get e.contexts key)
contexts_put e key [] = refl
contexts_put e key (r ∷ rs) = grind (arith, common_steps, contexts_put (put_libxl_content e r.content) key rs, context_said e key r.content)

pub last_context_is : (records : List LibxlRecord) (key : PartKey) → maps.get (emulators_of records).contexts key ≡ last_context key records
unfolding emulators_of
last_context_is records key =
    contexts_put no_emulators key records ∙ ap (option_or (last_context key records)) (maps.get-empty part_cmp key) ∙ or_none (last_context key records)

-- ---- values

abbrev value_of : List ℕ → Option PairMap → Option (List ℕ)
value_of k o = option_and_then (λ (m : PairMap). maps.get m k) o

-- of some pairs and then others, the others decide
value_behind : (ps qs : List Pair) (k : List ℕ) → last_pair_value k (ps ++ qs) ≡ option_or (last_pair_value k qs) (last_pair_value k ps)
value_behind [] qs k = sym (or_none (last_pair_value k qs))
value_behind (p ∷ ps) qs k = grind (arith, common_steps, value_behind ps qs k)

-- an empty store has as little as none
in_store : (o : Option PairMap) (k : List ℕ) → maps.get (unwrap_or o maps.empty) k ≡ value_of k o
in_store None k = maps.get-empty (slice_cmp nat_cmp) k
in_store (Some m) k = refl

added : (e : EmulatorsOf) (key q : PartKey) (k : List ℕ) (p : Pair) (ps : List Pair) (b : Bool) → eq_by_cmp part_cmp key q ≡ b
    → value_of k (cond b (Some (put_pairs (store_at e.stores q) (p ∷ ps))) (maps.get e.stores key)) ≡ option_or (last_pair_value k (cond b (p ∷ ps) [])) (value_in_store e key k)
added e key q k p ps false is = refl
added e key q k p ps true is =
    values_put (store_at e.stores q) (p ∷ ps) k
    ∙ ap (option_or (last_pair_value k (p ∷ ps))) (ap (λ z. maps.get (store_at e.stores z) k) (sym (part_exact key q (tied (part_cmp key q) is))) ∙ in_store (maps.get e.stores key) k)

pairs_added : (e : EmulatorsOf) (key q : PartKey) (k : List ℕ) (ps : List Pair) → value_in_store (add_pairs e q ps) key k ≡ option_or (last_pair_value k (cond (same_key q key) ps [])) (value_in_store e key k)
pairs_added e key q k [] = ap (λ ps. option_or (last_pair_value k ps) (value_in_store e key k)) (elim (same_key q key) as (λ b. ◌≡◌ {A = List Pair} [] (cond b [] [])) [ true ↦ refl | false ↦ refl ])
pairs_added e key q k (p ∷ ps) =
    ap (value_of k) (maps.get-insert part_total e.stores q (put_pairs (store_at e.stores q) (p ∷ ps)) key)
    ∙ added e key q k p ps (eq_by_cmp part_cmp key q) refl ∙ ap (λ b. option_or (last_pair_value k (cond b (p ∷ ps) [])) (value_in_store e key k)) (part_ties key q)

value_said : (e : EmulatorsOf) (key : PartKey) (k : List ℕ) (c : LibxlContent) → value_in_store (put_libxl_content e c) key k ≡ option_or (last_pair_value k (pairs_for key c)) (value_in_store e key k)
value_said e key k Nothing = refl
value_said e key k (Image image) = refl
value_said e key k (Pairs q ps) = pairs_added e key q k ps
value_said e key k (Context q bytes) = refl

store_put : (e : EmulatorsOf) (key : PartKey) (k : List ℕ) (rs : List LibxlRecord) → value_in_store (all_put e rs) key k ≡ option_or (last_pair_value k (pairs_said key rs)) (value_in_store e key k)
store_put e key k [] = refl
store_put e key k (r ∷ rs) =
    grind (arith, common_steps, store_put (put_libxl_content e r.content) key k rs, value_said e key k r.content, value_behind (pairs_for key r.content) (pairs_said key rs) k)

pub last_value_is : (records : List LibxlRecord) (key : PartKey) (k : List ℕ) → value_in_store (emulators_of records) key k ≡ last_pair_value k (pairs_said key records)
unfolding emulators_of
last_value_is records key k =
    store_put no_emulators key k records
    ∙ ap (λ o. option_or (last_pair_value k (pairs_said key records)) (value_of k o)) (maps.get-empty part_cmp key) ∙ or_none (last_pair_value k (pairs_said key records))

-- a store with more pairs has of each key the value of the last of all pairs
pub last_value_with : (records : List LibxlRecord) (key : PartKey) (ps : List Pair) (k : List ℕ) → maps.get (put_pairs (store_at (emulators_of records).stores key) ps) k ≡ last_pair_value k (pairs_said key records ++ ps)
last_value_with records key ps k =
    values_put (store_at (emulators_of records).stores key) ps k ∙ ap (option_or (last_pair_value k ps)) (in_store (maps.get (emulators_of records).stores key) k ∙ last_value_is records key k) ∙ sym (value_behind (pairs_said key records) ps k)
