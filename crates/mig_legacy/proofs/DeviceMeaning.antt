-- What the device model's data mean: of each key of its store the last value decides; and all parts of the guest.
use Rattle.mig_legacy.proofs.Common.{◌≡◌, ◌≢◌, ℕ, Bool, true, false, cond, List, [], ◌∷◌, ◌++◌, Option, Some, None, nat_eq, refl, sym, ap, subst, ◌∙◌, append_assoc, eq-eqb, fold, option_and_then, unwrap_or, option_map, option_or, append-nil, fold-append, Pair, part_cmp, PartKey, part_total, part_exact, PairMap, put_pair, put_pairs, text_of_map, same_key, last_bytes, part_ties, EmulatorsOf, no_emulators, store_at, add_pairs, put_libxl_content, emulators_of, last_context, part_there, LegacyContent, LegacyChunk, LegacyTail, LegacyStream, param_key, store_key, device_key, pair_records, device_records, store_records, guest_without, device_model, mean_legacy, Value, Pairs, parts_in, parts_of_chunks, parts_of_tail, parts_told, tail_value, last_value, toolstack_pairs, pairs_of_chunks, store_of, or_none, last_context_is, last_value_is}
use Rattle.std.specs.FinMap as maps
use Rattle.mig_guest.proofs.KeyedMaps.{tied, insert_gives}
use Rattle.mig_libxl_form.specs.Content.{LibxlRecord}
use Rattle.mig_libxl_form.specs.Content.LibxlContent.{Pairs as StorePairs}
use Rattle.mig_policy.specs.PairMaps.{last_pair_value as last_pair}
use Rattle.mig_legacy.proofs.Meaning.{without_part, last_join, tail_said, values_said}

abbrev all_put : EmulatorsOf → List LibxlRecord → EmulatorsOf
all_put e rs = fold (λ e r. put_libxl_content e r.content) e rs

put_join : (e : EmulatorsOf) (rs qs : List LibxlRecord) → all_put e (rs ++ qs) ≡ all_put (all_put e rs) qs
put_join e rs qs = fold-append (λ (x : EmulatorsOf) (r : LibxlRecord). put_libxl_content x r.content) e rs qs

-- ---- keys

other_key : (k q : PartKey) → q ≢ k → same_key k q ≡ false
other_key k q other = by (same_key k q) refl
  where
    by : (b : Bool) → same_key k q ≡ b → b ≡ false
    by true is = absurd (other (part_exact q k (tied _ (part_ties q k ∙ is))))
    by false is = refl

-- keys of different codes
differ : (k q : PartKey) → nat_eq k.code q.code ≡ false → k ≢ q
differ k q other same = let no : true ≡ false = sym (ap (λ (x : PartKey). nat_eq x.code q.code) same ∙ eq-eqb q.code q.code refl) ∙ other in cc

-- ---- contexts

contexts_behind : (key : PartKey) (chunks : List LegacyChunk) (rs : List LibxlRecord) → last_context key (store_records chunks ++ rs) ≡ last_context key rs
contexts_behind key [] rs = refl
contexts_behind key (c ∷ cs) rs = ap (last_context key) (append_assoc (pair_records c.content) (store_records cs) rs) ∙ behind c.content ∙ contexts_behind key cs rs
  where
    behind : (d : LegacyContent) → last_context key (pair_records d ++ (store_records cs ++ rs)) ≡ last_context key (store_records cs ++ rs)
    behind (Pairs ps) = or_none (last_context key (store_records cs ++ rs))
    behind _ = refl

contexts_are : (s : LegacyStream) (key : PartKey) → maps.get (device_model s).contexts key ≡ last_context key (device_records s.device)
contexts_are s key = last_context_is (store_records s.chunks ++ device_records s.device) key ∙ contexts_behind key s.chunks (device_records s.device)

no_context : (key : PartKey) → key ≢ device_key → (device : Option (List ℕ)) → last_context key (device_records device) ≡ None
no_context key other None = refl
no_context key other (Some bytes) = ap (λ b. cond b (Some bytes) None) (other_key device_key key other)

-- ---- stores

-- no store but the device model's
module _ (key : PartKey) (other : key ≢ store_key) where
  abbrev NoStore : EmulatorsOf → Type 0
  NoStore e = maps.get e.stores key ≡ None

  pairs_leave : (e : EmulatorsOf) (ps : List Pair) → NoStore e → NoStore (add_pairs e store_key ps)
  pairs_leave e [] none = none
  pairs_leave e (p ∷ ps) none =
      maps.get-insert part_total e.stores store_key (put_pairs (store_at e.stores store_key) (p ∷ ps)) key
      ∙ ap (λ b. cond b (Some (put_pairs (store_at e.stores store_key) (p ∷ ps))) (maps.get e.stores key)) (part_ties key store_key ∙ other_key store_key key other) ∙ none

  chunk_leaves : (e : EmulatorsOf) (c : LegacyContent) → NoStore e → NoStore (all_put e (pair_records c))
  chunk_leaves e (Pairs ps) none = pairs_leave e ps none
  chunk_leaves e _ none = none

  chunks_leave : (e : EmulatorsOf) (chunks : List LegacyChunk) → NoStore e → NoStore (all_put e (store_records chunks))
  chunks_leave e [] none = none
  chunks_leave e (c ∷ cs) none =
      subst NoStore (sym (put_join e (pair_records c.content) (store_records cs))) (chunks_leave (all_put e (pair_records c.content)) cs (chunk_leaves e c.content none))

  device_leaves : (e : EmulatorsOf) (device : Option (List ℕ)) → NoStore e → NoStore (all_put e (device_records device))
  device_leaves e None none = none
  device_leaves e (Some bytes) none = none

  no_store : (s : LegacyStream) → NoStore (device_model s)
  unfolding emulators_of
  no_store s =
      subst NoStore (sym (put_join no_emulators (store_records s.chunks) (device_records s.device)))
      (device_leaves (all_put no_emulators (store_records s.chunks)) s.device (chunks_leave no_emulators s.chunks (maps.get-empty part_cmp key)))

-- the store that pairs make of the one before
abbrev grown : Option PairMap → List Pair → Option PairMap
grown o [] = o
grown o (p ∷ ps) = Some (put_pairs (unwrap_or o maps.empty) (p ∷ ps))

grown_join : (o : Option PairMap) (ps qs : List Pair) → grown o (ps ++ qs) ≡ grown (grown o ps) qs
grown_join o [] qs = refl
grown_join o (p ∷ ps) [] = ap (λ l. grown o (p ∷ l)) (append-nil ps)
grown_join o (p ∷ ps) (q ∷ qs) = ap Some (fold-append put_pair (unwrap_or o maps.empty) (p ∷ ps) (q ∷ qs))

pairs_grow : (e : EmulatorsOf) (ps : List Pair) → maps.get (add_pairs e store_key ps).stores store_key ≡ grown (maps.get e.stores store_key) ps
pairs_grow e [] = refl
pairs_grow e (p ∷ ps) = insert_gives part_total e.stores store_key (put_pairs (store_at e.stores store_key) (p ∷ ps))

chunk_grows : (e : EmulatorsOf) (c : LegacyContent) → maps.get (all_put e (pair_records c)).stores store_key ≡ grown (maps.get e.stores store_key) (toolstack_pairs c)
chunk_grows e (Pairs ps) = pairs_grow e ps
chunk_grows e _ = refl

chunks_grow : (e : EmulatorsOf) (chunks : List LegacyChunk) → maps.get (all_put e (store_records chunks)).stores store_key ≡ grown (maps.get e.stores store_key) (pairs_of_chunks chunks)
chunks_grow e [] = refl
chunks_grow e (c ∷ cs) =
    ap (λ (x : EmulatorsOf). maps.get x.stores store_key) (put_join e (pair_records c.content) (store_records cs))
    ∙ chunks_grow (all_put e (pair_records c.content)) cs
    ∙ ap (λ o. grown o (pairs_of_chunks cs)) (chunk_grows e c.content)
    ∙ sym (grown_join (maps.get e.stores store_key) (toolstack_pairs c.content) (pairs_of_chunks cs))

device_keeps : (e : EmulatorsOf) (device : Option (List ℕ)) → (all_put e (device_records device)).stores ≡ e.stores
device_keeps e None = refl
device_keeps e (Some bytes) = refl

grown_of : (ps : List Pair) → grown None ps ≡ store_of ps
grown_of [] = refl
grown_of (p ∷ ps) = refl

stores_are : (s : LegacyStream) → maps.get (device_model s).stores store_key ≡ store_of (pairs_of_chunks s.chunks)
unfolding emulators_of
stores_are s =
    ap (λ (x : EmulatorsOf). maps.get x.stores store_key) (put_join no_emulators (store_records s.chunks) (device_records s.device))
    ∙ ap (λ m. maps.get m store_key) (device_keeps (all_put no_emulators (store_records s.chunks)) s.device)
    ∙ chunks_grow no_emulators s.chunks
    ∙ ap (λ o. grown o (pairs_of_chunks s.chunks)) (maps.get-empty part_cmp store_key) ∙ grown_of (pairs_of_chunks s.chunks)

pub last_pair_decides : (ps : List Pair) (k : List ℕ) → option_and_then (λ (m : PairMap). maps.get m k) (store_of ps) ≡ last_pair k ps
unfolding emulators_of
last_pair_decides ps k =
    let rs : List LibxlRecord = record { type = 2; content = StorePairs store_key ps } ∷ [] in
    let made : maps.get (emulators_of rs).stores store_key ≡ store_of ps = pairs_grow no_emulators ps ∙ ap (λ o. grown o ps) (maps.get-empty part_cmp store_key) ∙ grown_of ps in
    ap (option_and_then (λ (m : PairMap). maps.get m k)) (sym made) ∙ last_value_is rs store_key k ∙ ap (last_pair k) (append-nil ps)

-- ---- all parts

there : (s : LegacyStream) (key : PartKey) → maps.get (mean_legacy s).parts key ≡ option_or (maps.get (device_model s).contexts key) (option_or (option_map text_of_map (maps.get (device_model s).stores key)) (maps.get (guest_without s).parts key))
unfolding mean_legacy
there s key = part_there (guest_without s) (device_model s) key

pub last_part_decides : (s : LegacyStream) (key : PartKey) → key ≢ store_key → key ≢ device_key → maps.get (mean_legacy s).parts key ≡ last_bytes key (parts_told s)
last_part_decides s key no_pairs no_data =
    there s key
    ∙ ap (λ o. option_or o (option_or (option_map text_of_map (maps.get (device_model s).stores key)) (maps.get (guest_without s).parts key))) (contexts_are s key ∙ no_context key no_data s.device)
    ∙ ap (λ o. option_or (option_map text_of_map o) (maps.get (guest_without s).parts key)) (no_store key no_pairs s)
    ∙ without_part s key

-- no chunk and no tail says a part of the device model
module _ (key : PartKey) (apart : (c : LegacyContent) → last_bytes key (parts_in c) ≡ None) (behind : (t : LegacyTail) → last_bytes key (parts_of_tail t) ≡ None) where
  chunks_apart : (chunks : List LegacyChunk) → last_bytes key (parts_of_chunks chunks) ≡ None
  chunks_apart [] = refl
  chunks_apart (c ∷ cs) = last_join key (parts_in c.content) (parts_of_chunks cs) ∙ ap (λ o. option_or o (last_bytes key (parts_in c.content))) (chunks_apart cs) ∙ apart c.content

  untold : (s : LegacyStream) → maps.get (guest_without s).parts key ≡ None
  untold s = without_part s key ∙ last_join key (parts_of_chunks s.chunks) (parts_of_tail s.tail) ∙ ap (λ o. option_or o (last_bytes key (parts_of_chunks s.chunks))) (behind s.tail) ∙ chunks_apart s.chunks

no_device_data : (c : LegacyContent) → last_bytes device_key (parts_in c) ≡ None
no_device_data (Value index bytes) = refl
no_device_data _ = refl

no_store_text : (c : LegacyContent) → last_bytes store_key (parts_in c) ≡ None
no_store_text (Value index bytes) = refl
no_store_text _ = refl

pub device_record_decides : (s : LegacyStream) → maps.get (mean_legacy s).parts device_key ≡ s.device
device_record_decides s =
    there s device_key
    ∙ ap (λ o. option_or o (option_or (option_map text_of_map (maps.get (device_model s).stores device_key)) (maps.get (guest_without s).parts device_key))) (contexts_are s device_key)
    ∙ ap (λ o. option_or (last_context device_key (device_records s.device)) (option_or (option_map text_of_map o) (maps.get (guest_without s).parts device_key))) (no_store device_key (differ device_key store_key refl) s)
    ∙ ap (λ o. option_or (last_context device_key (device_records s.device)) o) (untold device_key no_device_data (λ t. refl) s)
    ∙ data_said s.device
  where
    data_said : (device : Option (List ℕ)) → option_or (last_context device_key (device_records device)) None ≡ device
    data_said None = refl
    data_said (Some bytes) = refl

pub pairs_make_store : (s : LegacyStream) → maps.get (mean_legacy s).parts store_key ≡ option_map text_of_map (store_of (pairs_of_chunks s.chunks))
pairs_make_store s =
    there s store_key
    ∙ ap (λ o. option_or o (option_or (option_map text_of_map (maps.get (device_model s).stores store_key)) (maps.get (guest_without s).parts store_key))) (contexts_are s store_key ∙ no_context store_key (differ store_key device_key refl) s.device)
    ∙ ap (option_or (option_map text_of_map (maps.get (device_model s).stores store_key))) (untold store_key no_store_text (λ t. refl) s)
    ∙ or_none (option_map text_of_map (maps.get (device_model s).stores store_key)) ∙ ap (option_map text_of_map) (stores_are s)

-- ---- HVM parameters

pub last_value_decides : (s : LegacyStream) (index : ℕ) → maps.get (mean_legacy s).parts (param_key index) ≡ option_or (tail_value index s.tail) (last_value index s.chunks)
last_value_decides s index =
    last_part_decides s (param_key index) (differ (param_key index) store_key refl) (differ (param_key index) device_key refl)
    ∙ last_join (param_key index) (parts_of_chunks s.chunks) (parts_of_tail s.tail)
    ∙ ap (λ o. option_or o (last_bytes (param_key index) (parts_of_chunks s.chunks))) (tail_said index s.tail)
    ∙ ap (option_or (tail_value index s.tail)) (values_said index s.chunks)
