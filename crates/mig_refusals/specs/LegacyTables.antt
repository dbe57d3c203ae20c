-- The causes of a legacy stream in the words of the format (Xen's xg_save_restore.h): where one stands in a part. Four are not
-- here: BadPageType and WordHigh, of a batch's words, and BadContext are in Legacy.antt, and Truncated is that a part is cut.
use Rattle.std.specs.Prelude.{◌≡◌, ◌↔◌, ◌≢◌, ℕ, ◌-◌, ◌^◌, ◌<◌, ◌≤◌, List, length, codes}
use Rattle.std.specs.FinMap as maps
use Rattle.mig_refusals.specs.Common.{be64, le32, sent, Hvm, EmulatorsOf, spelled_with, HasIn, LegacyCause, ChunkKind, number_causes}
use Rattle.mig_headers.specs.declared.legacy_fault.LegacyCause.TheVariants as causes
use Rattle.mig_legacy.specs.declared.chunk.ChunkKind.TheVariants.{End}
use Rattle.mig_legacy.specs.Legacy.{LegacyChunk, has_value, image_records, store_key}
use Rattle.mig_legacy.specs.LegacyForm.{length_causes, max_causes, pairs_of_toolstack, place_causes, signature_causes, start_causes, toolstack_causes}
use Rattle.mig_refusals.specs.LegacyToolstack.{FieldWrong}

-- the first 8 bytes are the marker of an image, the ident of a libxl stream, or a width of 2^32 and more
pub data LegacyStartHas (bytes : List ℕ) : LegacyCause → Type 0 where
  image_marker : be64 bytes 0 ≡ 2 ^ 64 - 1 → LegacyStartHas bytes causes.Modern
  libxl_ident : be64 bytes 0 ≡ 0x4C6962786C466D74 → LegacyStartHas bytes causes.Modern
  upper_half : le32 bytes 4 ≢ 0 → LegacyStartHas bytes causes.Tools32

-- the type of a chunk, whose number −n is written as 2^32 − n
pub data LegacyNumberHas (number : ℕ) : LegacyCause → Type 0 where
  minus_1 : number ≡ 2 ^ 32 - 1 → LegacyNumberHas number causes.VerifyOrPv
  minus_5 : number ≡ 2 ^ 32 - 5 → LegacyNumberHas number causes.Tmem
  minus_6 : number ≡ 2 ^ 32 - 6 → LegacyNumberHas number causes.Tmem
  minus_12 : number ≡ 2 ^ 32 - 12 → LegacyNumberHas number causes.Compressed
  minus_13 : number ≡ 2 ^ 32 - 13 → LegacyNumberHas number causes.Compressed
  minus_more : (n : ℕ) → 20 < n → n ≤ 2 ^ 31 → number ≡ 2 ^ 32 - n → LegacyNumberHas number (causes.UnknownChunk n)
  long_batch : 1024 < number → number < 2 ^ 31 → LegacyNumberHas number (causes.BatchTooLarge number)

-- a chunk that is this, behind these chunks: at the last one, one of the parameters 32 and 33 has a value and the other has none,
-- or there are too many frames; and no chunk comes behind 2^28 others
pub data LegacyPlaceHas (chunks : List LegacyChunk) (kind : ChunkKind) : LegacyCause → Type 0 where
  unpaired : kind ≡ End → has_value 32 chunks ≢ has_value 33 chunks → LegacyPlaceHas chunks kind causes.UnpairedIoreq
  many_chunks : 2 ^ 28 ≤ length chunks → LegacyPlaceHas chunks kind causes.TooManyChunks
  many_frames : kind ≡ End → 2 ^ 24 < length (maps.entries (sent Hvm (image_records chunks)).frames) → LegacyPlaceHas chunks kind causes.TooManyFrames

-- the greatest vCPU id
pub data LegacyMaxHas (bytes : List ℕ) : LegacyCause → Type 0 where
  large_id : 4096 ≤ le32 bytes 0 → LegacyMaxHas bytes (causes.BadVcpuMax (le32 bytes 0))

-- a length, of at most so much
pub data LegacyLengthHas (most : ℕ) (bytes : List ℕ) : LegacyCause → Type 0 where
  long_body : most < le32 bytes 0 → LegacyLengthHas most bytes (causes.BodyTooLong (le32 bytes 0))

-- the data of a toolstack: the first field that is wrong, or the emulator's pairs spell too much with its own
pub data LegacyToolstackHas (e : EmulatorsOf) (body : List ℕ) : LegacyCause → Type 0 where
  wrong_field : (offset : ℕ) → FieldWrong body offset → LegacyToolstackHas e body (causes.BadToolstack offset)
  many_pairs : 2 ^ 24 < spelled_with e store_key (pairs_of_toolstack body) → LegacyToolstackHas e body causes.TooManyPairs

-- the first bytes of a device model's record
pub data LegacySignatureHas (bytes : List ℕ) : LegacyCause → Type 0 where
  other_signature : bytes ≢ codes "DeviceModelRecord0002" → LegacySignatureHas bytes causes.BadSignature

-- of each table: some condition that holds has a cause exactly where the cause stands in words
pub record LegacyTablesSay : Type 0 where
  pub in_start : (bytes : List ℕ) (cause : LegacyCause) → HasIn (start_causes bytes) cause ↔ LegacyStartHas bytes cause
  pub in_number : (number : ℕ) (cause : LegacyCause) → number < 2 ^ 32 → (HasIn (number_causes number) cause ↔ LegacyNumberHas number cause)
  pub in_place : (chunks : List LegacyChunk) (kind : ChunkKind) (cause : LegacyCause) → HasIn (place_causes chunks kind) cause ↔ LegacyPlaceHas chunks kind cause
  pub in_max : (bytes : List ℕ) (cause : LegacyCause) → HasIn (max_causes bytes) cause ↔ LegacyMaxHas bytes cause
  pub in_length : (most : ℕ) (bytes : List ℕ) (cause : LegacyCause) → HasIn (length_causes most bytes) cause ↔ LegacyLengthHas most bytes cause
  pub in_toolstack : (e : EmulatorsOf) (body : List ℕ) (cause : LegacyCause) → HasIn (toolstack_causes e body) cause ↔ LegacyToolstackHas e body cause
  pub in_signature : (bytes : List ℕ) (cause : LegacyCause) → HasIn (signature_causes bytes) cause ↔ LegacySignatureHas bytes cause
