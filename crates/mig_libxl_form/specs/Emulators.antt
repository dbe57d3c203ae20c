-- What the records of emulators mean: of each key of an emulator's store the last value, and of each emulator the last
-- context (libxl migration stream, "EMULATOR_XENSTORE_DATA" and "EMULATOR_CONTEXT").
use Rattle.std.specs.Prelude.{◌≡◌, ℕ, List, [], ◌∷◌, ◌++◌, fold, map, Option, Some, None, option_and_then, unwrap_or, if◌then◌else◌, refl, length}
use Rattle.mig_libxl_form.specs.Common.{option_or, Pair, PartKey, GuestOf, Part, PartMap, parts_code, put_parts, PairMap, pairs_code, put_pairs, text_of_map, same_key}
use Rattle.std.specs.Coded.{Coded, code_by, coded×}
use Rattle.std.specs.FinMap as maps
use Rattle.mig_guest.specs.contracts.part_key.PartKey as part_key
use Rattle.mig_guest.specs.Order.{part_cmp}
use Rattle.mig_libxl_form.specs.Content.{LibxlRecord, LibxlContent}
use Rattle.mig_libxl_form.specs.Content.LibxlContent.{Nothing, Image, Pairs, Context}

-- the stores of emulators by the key of the part that they are, and their contexts
pub record EmulatorsOf : Type 0 where
  pub stores : maps.FinMap part_cmp PairMap
  pub contexts : PartMap

abbrev pub no_emulators : EmulatorsOf
no_emulators = record { stores = maps.empty; contexts = maps.empty }

-- the store of a key; an empty one where there is none
abbrev pub store_at : maps.FinMap part_cmp PairMap → PartKey → PairMap
store_at stores key = unwrap_or (maps.get stores key) maps.empty

-- pairs added to a store; no pairs make none
abbrev pub add_pairs : EmulatorsOf → PartKey → List Pair → EmulatorsOf
add_pairs e key [] = e
add_pairs e key (p ∷ ps) = record e { stores = maps.insert e.stores key (put_pairs (store_at e.stores key) (p ∷ ps)) }

abbrev pub put_libxl_content : EmulatorsOf → LibxlContent → EmulatorsOf
put_libxl_content e Nothing = e
put_libxl_content e (Image image) = e
put_libxl_content e (Pairs key ps) = add_pairs e key ps
put_libxl_content e (Context key bytes) = record e { contexts = maps.insert e.contexts key bytes }

-- what records say of emulators
unfoldable pub emulators_of : List LibxlRecord → EmulatorsOf
emulators_of records = fold (λ e r. put_libxl_content e r.content) no_emulators records

-- ---- emulators after an error

-- of these pairs some are in the store of this key, from the first on, and no others; all else is as it was
pub record ArePairsBegun (before after : EmulatorsOf) (key : PartKey) (all : List Pair) : Type 0 where
  pub done : List Pair
  pub rest : List Pair
  pub whole : done ++ rest ≡ all
  pub added : after ≡ add_pairs before key done

-- ---- emulators in the words of the format

-- the context that a content says for a key
abbrev pub context_in : PartKey → LibxlContent → Option (List ℕ)
context_in key (Context k bytes) = if same_key k key then Some bytes else None
context_in key _ = None

-- the last context for a key
abbrev pub last_context : PartKey → List LibxlRecord → Option (List ℕ)
last_context key [] = None
last_context key (r ∷ rs) = option_or (last_context key rs) (context_in key r.content)

-- the pairs that a content adds to the store of a key
abbrev pub pairs_for : PartKey → LibxlContent → List Pair
pairs_for key (Pairs k ps) = if same_key k key then ps else []
pairs_for key _ = []

-- all pairs for a store, in stream order
abbrev pub pairs_said : PartKey → List LibxlRecord → List Pair
pairs_said key [] = []
pairs_said key (r ∷ rs) = pairs_for key r.content ++ pairs_said key rs

-- the value of a key in the store of an emulator, if it has a store
abbrev pub value_in_store : EmulatorsOf → PartKey → List ℕ → Option (List ℕ)
value_in_store e key k = option_and_then (λ m. maps.get m k) (maps.get e.stores key)

-- ---- how many pairs there may be

-- how many bytes the pairs of the emulator with this key spell once these are added
abbrev pub spelled_with : EmulatorsOf → PartKey → List Pair → ℕ
spelled_with e key ps = length (text_of_map (put_pairs (store_at e.stores key) ps))

-- ---- a guest with its emulators

-- a store as a part: its pairs in ascending order of their keys
abbrev pub store_part : PartKey × PairMap → Part
store_part s = (s.0, text_of_map s.1)

-- the parts of emulators: their stores, and their contexts
abbrev pub emulator_parts : EmulatorsOf → List Part
emulator_parts e = map store_part (maps.entries e.stores) ++ maps.entries e.contexts

abbrev pub with_emulators : GuestOf → EmulatorsOf → GuestOf
with_emulators g e = record g { parts = put_parts g.parts (emulator_parts e) }

-- of all these parts the rest isn't set yet
pub record ArePartsBefore (before after : GuestOf) (rest all : List Part) : Type 0 where
  pub done : List Part
  pub whole : done ++ rest ≡ all
  pub set : after ≡ record before { parts = put_parts before.parts done }

-- of these parts some are set, from the first on, and no others; all else is as it was
abbrev pub ArePartsBegun : GuestOf → GuestOf → List Part → Type 0
ArePartsBegun before after all = (rest : List Part) × ArePartsBefore before after rest all

-- the stores that a list of keys and stores shows
abbrev pub stores_seen : List (PartKey × PairMap) → maps.FinMap part_cmp PairMap
stores_seen es = maps.from_entries es

abbrev pub emulators_code : Coded EmulatorsOf
emulators_code = code_by (maps.FinMap part_cmp PairMap × PartMap) (coded× (maps.code part_key.the_row.coded pairs_code) parts_code) (λ e. (e.stores, e.contexts)) (λ p. record { stores = p.0; contexts = p.1 }) (λ _. refl)
