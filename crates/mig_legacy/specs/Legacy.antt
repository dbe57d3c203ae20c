-- The chunks and the tail of a legacy stream, and the guest that they mean: that of a libxl stream whose records say the
-- same (Xen's xg_save_restore.h; libxc migration stream; libxl migration stream).
use Rattle.std.specs.Prelude.{ℕ, Bool, true, false, List, [], ◌∷◌, ◌++◌, Option, Some, None, ◌==◌}
use Rattle.mig_legacy.specs.Common.{flat_map, list_any, Pair, Hvm, GuestOf, context_key, PartKey, mean, FrameEntry, StreamRecord, EmulatorsOf, emulators_of, with_emulators, Part}
use Rattle.mig_guest.specs.declared.part_code.PartCode.TheVariants.{Tsc, HvmParam, HvmContext, EmulatorPairs, EmulatorContext}
use Rattle.mig_guest.specs.PartCodes.{code_number}
use Rattle.mig_headers.specs.RecordTypes.{type_number}
use Rattle.mig_headers.specs.declared.record_type.RecordType.TheVariants as types
use Rattle.mig_libxl_form.specs.LibxlTypes.{emulator_context_type, emulator_pairs_type}
use Rattle.mig_restore_form.specs.Record.Content.{Frames as SentFrames, Sets}
use Rattle.mig_libxl_form.specs.Content.{LibxlRecord}
use Rattle.mig_libxl_form.specs.Content.LibxlContent.{Pairs as StorePairs, Context}
use Rattle.mig_legacy.specs.declared.chunk.ChunkKind.{ChunkKind}
use Rattle.mig_legacy.specs.declared.chunk.ChunkKind.TheVariants as kinds

-- what a chunk says: nothing; the frames of a batch; the value of an HVM parameter; how time passes; or pairs of the
-- device model's store
pub data LegacyContent : Type 0 where
  Nothing : LegacyContent
  Frames : List FrameEntry → LegacyContent
  Value : ℕ → List ℕ → LegacyContent
  Clock : List ℕ → LegacyContent
  Pairs : List Pair → LegacyContent

pub record LegacyChunk : Type 0 where
  pub kind : ChunkKind
  pub content : LegacyContent

-- what is behind the chunks: the frames of the I/O requests, of the buffered ones and of the store, and the context
pub record LegacyTail : Type 0 where
  pub requests : List ℕ
  pub buffered : List ℕ
  pub store : List ℕ
  pub context : List ℕ

-- a whole stream; the device model's data stand in it or not
pub record LegacyStream : Type 0 where
  pub chunks : List LegacyChunk
  pub tail : LegacyTail
  pub device : Option (List ℕ)

-- ---- what stands among chunks

abbrev pub is_end : ChunkKind → Bool
is_end kinds.End = true
is_end _ = false

abbrev pub is_value_of : ℕ → ChunkKind → Bool
is_value_of index (kinds.Param i) = i == index
is_value_of index _ = false

-- the last chunk is there
abbrev pub is_legacy_ended : List LegacyChunk → Bool
is_legacy_ended chunks = list_any (λ c. is_end c.kind) chunks

-- some chunk has the value of this parameter
abbrev pub has_value : ℕ → List LegacyChunk → Bool
has_value index chunks = list_any (λ c. is_value_of index c.kind) chunks

-- ---- the records that say the same

abbrev pub param_key : ℕ → PartKey
param_key index = record { code = code_number HvmParam; key1 = index; key2 = 0 }

abbrev pub tsc_key : PartKey
tsc_key = record { code = code_number Tsc; key1 = 0; key2 = 0 }

-- the store and the context of the device model, which is the emulator of id 0 and index 0
abbrev pub store_key : PartKey
store_key = record { code = code_number EmulatorPairs; key1 = 0; key2 = 0 }

abbrev pub device_key : PartKey
device_key = record { code = code_number EmulatorContext; key1 = 0; key2 = 0 }

abbrev pub params_record : List Part → StreamRecord
params_record values = record { type = type_number types.HvmParams; content = Sets HvmParam values }

-- of an image
abbrev pub records_in : LegacyContent → List StreamRecord
records_in Nothing = []
records_in (Frames es) = record { type = type_number types.PageData; content = SentFrames es } ∷ []
records_in (Value index value) = params_record ((param_key index, value) ∷ []) ∷ []
records_in (Clock bytes) = record { type = type_number types.X86TscInfo; content = Sets Tsc ((tsc_key, bytes) ∷ []) } ∷ []
records_in (Pairs ps) = []

abbrev pub tail_records : LegacyTail → List StreamRecord
tail_records t =
    params_record ((param_key 5, t.requests) ∷ (param_key 6, t.buffered) ∷ (param_key 1, t.store) ∷ [])
    ∷ record { type = type_number types.HvmContext; content = Sets HvmContext ((context_key, t.context) ∷ []) }
    ∷ []

-- of a libxl stream
abbrev pub pair_records : LegacyContent → List LibxlRecord
pair_records (Pairs ps) = record { type = emulator_pairs_type; content = StorePairs store_key ps } ∷ []
pair_records _ = []

abbrev pub device_records : Option (List ℕ) → List LibxlRecord
device_records None = []
device_records (Some bytes) = record { type = emulator_context_type; content = Context device_key bytes } ∷ []

abbrev pub image_records : List LegacyChunk → List StreamRecord
image_records chunks = flat_map (λ c. records_in c.content) chunks

abbrev pub store_records : List LegacyChunk → List LibxlRecord
store_records chunks = flat_map (λ c. pair_records c.content) chunks

-- ---- the meaning

-- the guest without emulators
abbrev pub guest_without : LegacyStream → GuestOf
guest_without s = mean Hvm (image_records s.chunks ++ tail_records s.tail)

-- the device model
abbrev pub device_model : LegacyStream → EmulatorsOf
device_model s = emulators_of (store_records s.chunks ++ device_records s.device)

unfoldable pub mean_legacy : LegacyStream → GuestOf
mean_legacy s = with_emulators (guest_without s) (device_model s)
