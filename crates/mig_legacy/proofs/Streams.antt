-- A legacy stream as the reader takes it, part after part, and the guest that it means.
use Rattle.mig_legacy.proofs.Common.{◌≡◌, ℕ, List, ◌++◌, Option, refl, sym, ap, ◌∙◌, fold-append, Judged, ◌>>=◌, placed, Passes, Hvm, LegacyCause, LegacyPlace, Start, Tail, Device, GuestOf, blank, mean, sent, put_record, empty_guest, put_libxl_content, no_emulators, emulators_of, with_emulators, IsStreamedBare, judged_as, start_form, tail_form, device_at, LegacyChunk, LegacyTail, LegacyStream, tail_records, device_records, image_records, store_records, mean_legacy, IsLegacySeen, IsLegacyTaken, FrameMap, kept_guest, put_tail, put_device, chunks_at, legacy_at, ChunksSeen, outline_frames}
use Rattle.std.proofs.Common.{fold}
use Rattle.std.specs.FinMap as maps
use Rattle.mig_outline.proofs.Outline.{frames_len}

abbrev pub stream_of : List LegacyChunk → LegacyTail → Option (List ℕ) → LegacyStream
stream_of chunks tail device = record { chunks = chunks; tail = tail; device = device }

-- what stands behind each part
abbrev pub behind_tail : List LegacyChunk → LegacyTail × List ℕ → Judged (LegacyPlace × LegacyCause) LegacyStream
behind_tail chunks tail = placed Device (device_at tail.1) >>= λ device. Passes (stream_of chunks tail.0 device.0) device.1

abbrev pub behind_chunks : List LegacyChunk × List ℕ → Judged (LegacyPlace × LegacyCause) LegacyStream
behind_chunks chunks = placed Tail (judged_as tail_form chunks.1) >>= behind_tail chunks.0

abbrev pub behind_start : List ℕ × List ℕ → Judged (LegacyPlace × LegacyCause) LegacyStream
behind_start start = chunks_at start.1 >>= behind_chunks

pub stream_is : (i : List ℕ) → legacy_at i ≡ (placed Start (judged_as start_form i) >>= behind_start)
unfolding legacy_at
stream_is i = refl

-- what is kept behind the tail and the device model's record
pub stream_taken : (kept : FrameMap → FrameMap) (seen taken : ChunksSeen) (chunks : List LegacyChunk) (tail : LegacyTail) (device : Option (List ℕ))
    → IsLegacySeen kept seen chunks → taken.guest ≡ put_tail seen.guest tail → taken.emulators ≡ put_device seen.emulators device → IsLegacyTaken kept taken (stream_of chunks tail device)
unfolding sent emulators_of
stream_taken kept seen taken chunks tail device is_seen is_tail is_device = record {
  guest = is_tail ∙ ap (λ x. put_tail x tail) is_seen.guest ∙ ap (kept_guest kept) (sym (fold-append put_record (empty_guest Hvm) (image_records chunks) (tail_records tail)));
  emulators = is_device ∙ ap (λ x. fold (λ x r. put_libxl_content x r.content) x (device_records device)) is_seen.emulators ∙ sym (fold-append (λ x r. put_libxl_content x r.content) no_emulators (store_records chunks) (device_records device));
}

-- the guest that was put together is the one that is meant
pub guest_meant : (seen : ChunksSeen) (s : LegacyStream) (result : GuestOf) → IsLegacyTaken (λ frames. frames) seen s → IsStreamedBare seen.guest → result ≡ with_emulators seen.guest seen.emulators → result ≡ mean_legacy s
unfolding mean_legacy mean
guest_meant seen s result taken plain is =
    is ∙ (λ i. with_emulators (sym plain.blank i) seen.emulators) ∙ (λ i. with_emulators (blank (taken.guest i)) (taken.emulators i))

-- of the outline there are as many frames
pub frames_meant : (seen : ChunksSeen) (s : LegacyStream) (n : ℕ) → IsLegacyTaken outline_frames seen s → n ≡ maps.len seen.guest.frames → n ≡ maps.len (mean_legacy s).frames
unfolding mean_legacy
frames_meant seen s n taken count = frames_len seen.guest Hvm (image_records s.chunks ++ tail_records s.tail) n taken.guest count
