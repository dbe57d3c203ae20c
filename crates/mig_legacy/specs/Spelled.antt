-- The spelling of a legacy stream, in the words of the format (Xen's xg_save_restore.h; libxl's save file up to Xen
-- 4.5). It has a start, chunks one after the other, a tail, and the device model's record or the end of the input.
use Rattle.std.specs.Prelude.{◌≡◌, ◌≢◌, ◌≤◌, ◌<◌, ℕ, ◌+◌, ◌*◌, ◌/◌, ◌-◌, ⊤, true, false, List, [], ◌++◌, length, Option, Some, None}
use Rattle.mig_legacy.specs.Common.{All, flat_map, le32, be64, Spells, most_body, vcpu_limit, IsFew, GuestOf, most_pairs, ContextEntry, IsContext, cut_at, marker, libxl_ident, Hvm, words, sent, FrameEntry, emulators_of, spelled_with}
use Rattle.mig_restore_form.specs.Spelled.{AreEntries}
use Rattle.mig_legacy.specs.declared.chunk.ChunkKind.{ChunkKind}
use Rattle.mig_legacy.specs.declared.chunk.ChunkKind.TheVariants.{End, Batch, VcpuMap, Tsc, LastCheckpoint, Toolstack, Param}
use Rattle.mig_legacy.specs.Batches.{is_reserved, is_high, page_data_words}
use Rattle.mig_legacy.specs.Chunks.{IsNumberOf}
use Rattle.mig_legacy.specs.LegacyForm.{most_chunks, signature}
use Rattle.mig_legacy.specs.Legacy.{LegacyContent, LegacyChunk, LegacyTail, LegacyStream, is_legacy_ended, has_value, store_key, image_records, store_records, mean_legacy}
use Rattle.mig_legacy.specs.Legacy.LegacyContent.{Nothing, Frames, Value, Clock, Pairs}
use Rattle.mig_legacy.specs.Texts.{pairs_of_physmap}
use Rattle.mig_legacy.specs.Toolstack.{Physmap, IsToolstack}

-- ---- a chunk

-- a word of a type that isn't reserved, whose upper half is 0
abbrev pub IsLegacyWord : ℕ → Type 0
IsLegacyWord word = (is_reserved word ≡ false) × (is_high word ≡ false)

-- so many words, and the pages of those of a type with data; a placeholder says no frame
pub record IsLegacyBatch (n : ℕ) (body : List ℕ) (es : List FrameEntry) : Type 0 where
  pub words_bytes : List ℕ
  pub pages_bytes : List ℕ
  pub whole : body ≡ words_bytes ++ pages_bytes
  pub words_len : length words_bytes ≡ 8 * n
  pub good : All IsLegacyWord (words n words_bytes)
  pub entries : AreEntries Hvm 0 (page_data_words (words n words_bytes)) pages_bytes es

-- a length of 4 bytes, and as many bytes, which are at most so many
pub record IsCounted (most : ℕ) (text bytes : List ℕ) : Type 0 where
  pub front : List ℕ
  pub whole : text ≡ front ++ bytes
  pub front_len : length front ≡ 4
  pub len : le32 front 0 ≡ length bytes
  pub small : length bytes ≤ most

-- the body of a chunk that is this, and what it says
pub data HasLegacyContent : ChunkKind → List ℕ → LegacyContent → Type 0 where
  ends : HasLegacyContent End [] Nothing
  batch : (n : ℕ) (body : List ℕ) (es : List FrameEntry) → IsLegacyBatch n body es → HasLegacyContent (Batch n) body (Frames es)
  vcpus : (max bits : List ℕ) → length max ≡ 4 → le32 max 0 < vcpu_limit → length bits ≡ 8 * (le32 max 0 / 64 + 1) → HasLegacyContent VcpuMap (max ++ bits) Nothing
  clock : (mode nanoseconds frequency incarnation : List ℕ) → length mode ≡ 4 → length nanoseconds ≡ 8 → length frequency ≡ 4 → length incarnation ≡ 4
      → HasLegacyContent Tsc (mode ++ (nanoseconds ++ (frequency ++ incarnation))) (Clock (mode ++ (frequency ++ (nanoseconds ++ incarnation))))
  last_checkpoint : HasLegacyContent LastCheckpoint [] Nothing
  toolstack : (text body : List ℕ) (es : List Physmap) → IsCounted most_body text body → IsToolstack body es → HasLegacyContent Toolstack text (Pairs (flat_map pairs_of_physmap es))
  value : (index : ℕ) (pad value : List ℕ) → length pad ≡ 4 → length value ≡ 8 → HasLegacyContent (Param index) (pad ++ value) (Value index value)

-- a chunk: the number of its type, and its body
pub record IsChunk (c : LegacyChunk) (bytes : List ℕ) : Type 0 where
  pub number : List ℕ
  pub body : List ℕ
  pub whole : bytes ≡ number ++ body
  pub number_len : length number ≡ 4
  pub is : IsNumberOf c.kind (le32 number 0)
  pub says : HasLegacyContent c.kind body c.content

-- the store has no more pairs than it may have, once these are added
abbrev pub StoreFits : List LegacyChunk → LegacyContent → Type 0
StoreFits chunks (Pairs ps) = spelled_with (emulators_of (store_records chunks)) store_key ps ≤ most_pairs
StoreFits chunks _ = ⊤

-- what the last chunk asks: the values of both frames of I/O requests or of none, and not too many frames
pub record IsLegacyComplete (chunks : List LegacyChunk) : Type 0 where
  pub paired : has_value 32 chunks ≡ has_value 33 chunks
  pub few : IsFew (sent Hvm (image_records chunks)).frames

-- a chunk that may come behind these chunks
pub record FollowsLegacy (chunks : List LegacyChunk) (c : LegacyChunk) (bytes : List ℕ) : Type 0 where
  pub is : IsChunk c bytes
  pub fits : StoreFits chunks c.content
  pub few : length chunks < most_chunks
  pub not_ended : is_legacy_ended chunks ≡ false
  pub complete : c.kind ≡ End → IsLegacyComplete chunks

-- ---- what is before the chunks and behind them

-- the width of the P2M: its upper half is 0, and it is neither an image's marker nor a libxl stream's ident
pub record IsStart (bytes : List ℕ) : Type 0 where
  pub len : length bytes ≡ 8
  pub no_image : be64 bytes 0 ≢ marker
  pub no_libxl : be64 bytes 0 ≢ libxl_ident
  pub small : le32 bytes 4 ≡ 0

-- three frame numbers, and a context, kept up to its END
pub record IsTail (bytes : List ℕ) (t : LegacyTail) : Type 0 where
  pub text : List ℕ
  pub context : List ℕ
  pub entries : List ContextEntry
  pub whole : bytes ≡ t.requests ++ (t.buffered ++ (t.store ++ text))
  pub requests_len : length t.requests ≡ 8
  pub buffered_len : length t.buffered ≡ 8
  pub store_len : length t.store ≡ 8
  pub counted : IsCounted most_body text context
  pub is_context : IsContext context entries
  pub cut : t.context ≡ cut_at context (length is_context.before)

-- the device model's record; without one the input ends here
abbrev pub IsDevice : List ℕ → Option (List ℕ) → List ℕ → Type 0
IsDevice bytes None rest = (bytes ≡ []) × (rest ≡ [])
IsDevice bytes (Some content) rest = (text : List ℕ) × (bytes ≡ signature ++ text) × IsCounted (most_body - 8) text content

-- ---- the stream

-- a legacy stream without a fault, and what follows it
pub record IsLegacy (input : List ℕ) (s : LegacyStream) (rest : List ℕ) : Type 0 where
  pub start : List ℕ
  pub bytes : List ℕ
  pub tail : List ℕ
  pub device : List ℕ
  pub whole : input ≡ start ++ (bytes ++ (tail ++ (device ++ rest)))
  pub is_start : IsStart start
  pub spelled : Spells FollowsLegacy bytes s.chunks
  pub ended : is_legacy_ended s.chunks ≡ true
  pub is_tail : IsTail tail s.tail
  pub is_device : IsDevice device s.device rest

-- a front of the input is an accepted legacy stream with this guest, and rest follows it
pub record AcceptedLegacy (input : List ℕ) (guest : GuestOf) (rest : List ℕ) : Type 0 where
  pub stream : LegacyStream
  pub spelled : IsLegacy input stream rest
  pub means : guest ≡ mean_legacy stream
