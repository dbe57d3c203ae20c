-- Judging a legacy stream as a whole: the start, chunks up to the one that ends them, the tail, and the device model's
-- record if there is one.
use Rattle.std.specs.Prelude.{◌≡◌, ℕ, List, [], ◌∷◌, length, Option, None, Result}
use Rattle.std.specs.FinMap as maps
use Rattle.mig_legacy.specs.Common.{or_stop, Passes, Faulty, sequence_at, LegacyCause, LegacyPlace, GuestOf, judged_as}
use Rattle.mig_bytes.specs.Judged.{Judged, ◌>>=◌, placed, AgreesWithJudging}
use Rattle.mig_bytes.specs.declared.answer.Answer.{Answer}
use Rattle.mig_headers.specs.declared.legacy_fault.LegacyPlace.TheVariants.{Start, Chunk, Tail, Device}
use Rattle.mig_legacy.specs.LegacyForm.{start_form, chunk_form, tail_form, device_form}
use Rattle.mig_legacy.specs.Legacy.{LegacyChunk, LegacyStream, is_legacy_ended, mean_legacy}

-- ---- the chunks

-- a chunk behind these chunks, at its place
abbrev pub placed_chunk : List LegacyChunk → List ℕ → Judged (LegacyPlace × LegacyCause) LegacyChunk
placed_chunk chunks input = placed (Chunk (length chunks)) (judged_as (chunk_form chunks) input)

-- chunks up to the one that ends them
abbrev pub chunks_at : List ℕ → Judged (LegacyPlace × LegacyCause) (List LegacyChunk)
chunks_at input = sequence_at is_legacy_ended placed_chunk input

-- ---- the stream

-- the device model's record, or the end of the input
unfoldable pub device_at : List ℕ → Judged LegacyCause (Option (List ℕ))
device_at [] = Passes None []
device_at (b ∷ input) = judged_as device_form (b ∷ input)

unfoldable pub legacy_at : List ℕ → Judged (LegacyPlace × LegacyCause) LegacyStream
legacy_at input = do
  start ← placed Start (judged_as start_form input)
  chunks ← chunks_at start.1
  tail ← placed Tail (judged_as tail_form chunks.1)
  device ← placed Device (device_at tail.1)
  Passes (record { chunks = chunks.0; tail = tail.0; device = device.0 }) device.1

-- the input is refused at this place, for this cause, and rest follows the faulty part
abbrev pub IsLegacyRefused : List ℕ → LegacyPlace → LegacyCause → List ℕ → Type 0
IsLegacyRefused input place cause rest = legacy_at input ≡ Faulty (place, cause) rest

-- ---- what the reader of legacy streams answers

-- what the reader answered, and what it left in the source, is what judging gives: the guest that the stream means
abbrev pub ReadsLegacy : Option (List ℕ) → Option (List ℕ) → Result GuestOf (Answer LegacyPlace LegacyCause) → Type 0
ReadsLegacy old new result = AgreesWithJudging (λ guest s. guest ≡ mean_legacy s) old new legacy_at (or_stop result)

-- what the judge of legacy streams answered, and what it left in the source, is what judging gives: how many frames the guest
-- has that the stream means
abbrev pub JudgesLegacy : Option (List ℕ) → Option (List ℕ) → Result ℕ (Answer LegacyPlace LegacyCause) → Type 0
JudgesLegacy old new result = AgreesWithJudging (λ frames s. frames ≡ maps.len (mean_legacy s).frames) old new legacy_at (or_stop result)
