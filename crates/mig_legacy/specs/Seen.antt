-- What the reader of a legacy stream keeps of the chunks before; of the frames it keeps all, or less.
use Rattle.std.specs.Prelude.{◌≡◌, ℕ, List, ◌++◌, length, fold, Option}
use Rattle.std.specs.FinMap as maps
use Rattle.mig_bytes.specs.declared.stop.Stop.{Stop}
use Rattle.mig_bytes.specs.declared.stop.Stop.TheVariants.{Refused, ReadFault, Memory}
use Rattle.mig_headers.specs.declared.fault.Cause.{Cause}
use Rattle.mig_legacy.specs.Common.{Hvm, LegacyCause, Truncated, FrameMap, GuestOf, sent, put_content_by, put_record, EmulatorsOf, put_libxl_content, emulators_of, AreEmulators}
use Rattle.mig_restore_form.specs.Mean.{IsBegun as IsGuestBegun, put_entries}
use Rattle.mig_restore.specs.Kept.{EntryStep, kept_guest}
use Rattle.mig_legacy.specs.Legacy.{LegacyContent, LegacyChunk, LegacyTail, LegacyStream, device_model, has_value, records_in, pair_records, tail_records, device_records, image_records, store_records}
use Rattle.mig_legacy.specs.Legacy.LegacyContent.{Frames}
use Rattle.mig_legacy.specs.LegacyForm.{frames_sent}
use Rattle.mig_legacy.specs.declared.read.ChunksSeen.{ChunksSeen}

-- the reader has these chunks behind it
pub record IsLegacySeen (kept : FrameMap → FrameMap) (seen : ChunksSeen) (chunks : List LegacyChunk) : Type 0 where
  pub count : seen.chunks ≡ length chunks
  pub guest : seen.guest ≡ kept_guest kept (sent Hvm (image_records chunks))
  pub many : maps.len seen.guest.frames ≡ frames_sent chunks
  pub emulators : seen.emulators ≡ emulators_of (store_records chunks)
  pub requests : seen.requests ≡ has_value 32 chunks
  pub buffered : seen.buffered ≡ has_value 33 chunks

-- ---- what reading keeps, whatever chunks come

pub record IsLegacyBegun (seen : ChunksSeen) : Type 0 where
  pub hvm : seen.guest.kind ≡ Hvm
  pub guest : IsGuestBegun seen.guest
  pub emulators : AreEmulators seen.emulators

-- the guest, where this is what an entry makes of its frames, and the emulators, once a chunk has said this
abbrev pub put_in_guest : EntryStep → GuestOf → LegacyContent → GuestOf
put_in_guest put g c = fold (λ g r. put_content_by put g r.content) g (records_in c)

abbrev pub put_in_emulators : EmulatorsOf → LegacyContent → EmulatorsOf
put_in_emulators e c = fold (λ e r. put_libxl_content e r.content) e (pair_records c)

-- the guest once the tail has said this
abbrev pub put_tail : GuestOf → LegacyTail → GuestOf
put_tail g t = fold put_record g (tail_records t)

-- the emulators once the device model's record has said this
abbrev pub put_device : EmulatorsOf → Option (List ℕ) → EmulatorsOf
put_device e device = fold (λ e r. put_libxl_content e r.content) e (device_records device)

-- a stop of an image's part, where the only cause is that it isn't whole
abbrev pub cut_short : Stop Cause → Stop LegacyCause
cut_short (Refused cause) = Refused Truncated
cut_short ReadFault = ReadFault
cut_short Memory = Memory

-- what the content of a chunk makes of what was kept
pub record TakesLegacy (put : EntryStep) (old new : ChunksSeen) (c : LegacyContent) : Type 0 where
  pub guest : new.guest ≡ put_in_guest put old.guest c
  pub emulators : new.emulators ≡ put_in_emulators old.emulators c
  pub chunks : new.chunks ≡ old.chunks
  pub requests : new.requests ≡ old.requests
  pub buffered : new.buffered ≡ old.buffered

-- ---- what is noted of frames

-- what the content of a chunk makes of frames
abbrev pub put_chunk_frames : LegacyContent → FrameMap → FrameMap
put_chunk_frames (Frames es) frames = put_entries Hvm frames es
put_chunk_frames _ frames = frames

-- where no frames were noted before some chunks, those that they send are noted behind them
abbrev pub NotesChunks : {K : Type 0} → (K → List ℕ → Option (List ℕ) → FrameMap → Type 0) → K → K → Option (List ℕ) → Option (List ℕ) → List LegacyChunk → Type 0
NotesChunks notes old new before after chunks = (all : List ℕ) → notes old all before maps.empty → notes new all after (sent Hvm (image_records chunks)).frames

-- ---- the stream

-- the reader has this stream behind it
pub record IsLegacyTaken (kept : FrameMap → FrameMap) (seen : ChunksSeen) (s : LegacyStream) : Type 0 where
  pub guest : seen.guest ≡ kept_guest kept (sent Hvm (image_records s.chunks ++ tail_records s.tail))
  pub emulators : seen.emulators ≡ device_model s
