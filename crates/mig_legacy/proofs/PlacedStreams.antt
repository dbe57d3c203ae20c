-- A legacy stream that was taken with the places of its pages.
use Rattle.mig_legacy.proofs.Common.{◌≡◌, ℕ, List, ◌++◌, Option, Some, None, Ok, refl, sym, ap, ◌∙◌, fold-append, AgreesWithJudging, Judged, FrameMap, GuestOf, Hvm, sent, put_record, empty_guest, with_emulators, LegacyStream, LegacyTail, StreamRecord, image_records, tail_records, IsLegacyTaken, ChunksSeen, weakened, left_at, outline_frames, both_told, NotesChunks}
use Rattle.std.specs.FinMap as maps
use Rattle.mig_placed.specs.InFile.{frames_in_file}
use Rattle.mig_placing.specs.declared.guest.PlacedGuest.{PlacedGuest}
use Rattle.mig_legacy.specs.Placed.{IsPlacedLegacy}

-- the tail sends no frames
tail_stays : (records : List StreamRecord) (tail : LegacyTail) → (sent Hvm (records ++ tail_records tail)).frames ≡ (sent Hvm records).frames
unfolding sent
tail_stays records tail = ap (λ (g : GuestOf). g.frames) (fold-append put_record (empty_guest Hvm) records (tail_records tail))

module _ {C P K : Type 0} (notes : K → List ℕ → Option (List ℕ) → FrameMap → Type 0) (bytes : P → Option (List ℕ)) (old new : K) (placed : PlacedGuest P) (seen : ChunksSeen) (at : ℕ) (b : Option (List ℕ)) (f : List ℕ → Judged C LegacyStream)
    (says : (all : List ℕ) (frames : FrameMap) → notes new all b frames → (bytes placed.file.now ≡ Some all) × (frames_in_file (Some all) placed.places ≡ frames)) (guest : placed.outline ≡ with_emulators seen.guest seen.emulators) where
  pub legacy_placed : (file : Option (List ℕ)) → ((all : List ℕ) → file ≡ Some all → notes old all (left_at file at) maps.empty)
      → AgreesWithJudging (IsLegacyTaken outline_frames) (left_at file at) b f (Ok seen) → AgreesWithJudging {X = ChunksSeen} (λ _ s. NotesChunks notes old new (left_at file at) b s.chunks) (left_at file at) b f (Ok seen)
      → AgreesWithJudging (IsPlacedLegacy bytes) (left_at file at) b f (Ok placed)
  legacy_placed None begun read noted = tt
  legacy_placed (Some all) begun read noted =
      let a = left_at (Some all) at in
      weakened (λ (x : ChunksSeen) s. IsLegacyTaken outline_frames x s × NotesChunks notes old new a b s.chunks) (IsPlacedLegacy bytes) a b f seen placed
      (λ s both.
      let told = says all _ (both.1 all (begun all refl)) in
      record { all = all; told = told.0; guest = guest ∙ (λ i. with_emulators (both.0.guest i) (both.0.emulators i)); frames = told.1 ∙ sym (tail_stays (image_records s.chunks) s.tail) })
      (both_told (IsLegacyTaken outline_frames) (λ (_ : ChunksSeen) s. NotesChunks notes old new a b s.chunks) a b f seen seen read noted)
