-- What a legacy stream means, in the words of its format. Of each frame number the last entry of all batches decides;
-- of each part the last of its chunks and tail that says it; of each key of the device model's store the last value.
use Rattle.std.specs.Prelude.{ℕ, List, [], ◌∷◌, ◌++◌, Option, Some, None, ◌==◌, if◌then◌else◌}
use Rattle.mig_legacy.specs.Common.{flat_map, option_or, Pair, context_key, PairMap, put_pairs, FrameEntry, Part}
use Rattle.std.specs.FinMap as maps
use Rattle.mig_legacy.specs.Legacy.{LegacyContent, LegacyChunk, LegacyTail, LegacyStream, param_key, tsc_key}
use Rattle.mig_legacy.specs.Legacy.LegacyContent.{Frames, Value, Clock, Pairs}

-- ---- frames

-- the entries of a batch
abbrev pub batch_entries : LegacyContent → List FrameEntry
batch_entries (Frames es) = es
batch_entries _ = []

-- the entries of all batches, in stream order
abbrev pub entries_of_chunks : List LegacyChunk → List FrameEntry
entries_of_chunks chunks = flat_map (λ c. batch_entries c.content) chunks

-- ---- parts

-- the part that a chunk says, if any
abbrev pub parts_in : LegacyContent → List Part
parts_in (Value index value) = (param_key index, value) ∷ []
parts_in (Clock bytes) = (tsc_key, bytes) ∷ []
parts_in _ = []

-- the parts of all chunks, in stream order
abbrev pub parts_of_chunks : List LegacyChunk → List Part
parts_of_chunks chunks = flat_map (λ c. parts_in c.content) chunks

-- three HVM parameters, and the context
abbrev pub parts_of_tail : LegacyTail → List Part
parts_of_tail t = (param_key 5, t.requests) ∷ (param_key 6, t.buffered) ∷ (param_key 1, t.store) ∷ (context_key, t.context) ∷ []

-- all parts but the device model's, in stream order
abbrev pub parts_told : LegacyStream → List Part
parts_told s = parts_of_chunks s.chunks ++ parts_of_tail s.tail

-- ---- HVM parameters

-- the value that the tail says of a parameter
abbrev pub tail_value : ℕ → LegacyTail → Option (List ℕ)
tail_value index t = if index == 1 then Some t.store else if index == 5 then Some t.requests else if index == 6 then Some t.buffered else None

-- the value that a chunk says of a parameter
abbrev pub value_in : ℕ → LegacyContent → Option (List ℕ)
value_in index (Value i value) = if i == index then Some value else None
value_in index _ = None

-- the value of the last chunk that says one of this parameter
abbrev pub last_value : ℕ → List LegacyChunk → Option (List ℕ)
last_value index [] = None
last_value index (c ∷ cs) = option_or (last_value index cs) (value_in index c.content)

-- ---- the device model's store

-- the pairs of a toolstack
abbrev pub toolstack_pairs : LegacyContent → List Pair
toolstack_pairs (Pairs ps) = ps
toolstack_pairs _ = []

-- the pairs of all toolstacks, in stream order
abbrev pub pairs_of_chunks : List LegacyChunk → List Pair
pairs_of_chunks chunks = flat_map (λ c. toolstack_pairs c.content) chunks

-- the store that pairs make, of each key the last value; no pairs make none
abbrev pub store_of : List Pair → Option PairMap
store_of [] = None
store_of ps = Some (put_pairs maps.empty ps)
