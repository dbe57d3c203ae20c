-- A legacy stream whose pages stay in its file.
use Rattle.std.specs.Prelude.{◌≡◌, ℕ, List, ◌++◌, Option, Some}
use Rattle.mig_legacy.specs.Common.{Hvm, sent, with_emulators}
use Rattle.mig_legacy.specs.Legacy.{LegacyStream, device_model, image_records, tail_records}
use Rattle.mig_outline.specs.Outline.{outline}
use Rattle.mig_placed.specs.InFile.{frames_in_file}
use Rattle.mig_placing.specs.declared.guest.PlacedGuest.{PlacedGuest}

-- of a stream: the outline of the guest that its chunks and its tail send, with the parts of its device model, and cells that
-- read in the file as the frames of this guest
pub record IsPlacedLegacy {P : Type 0} (bytes : P → Option (List ℕ)) (placed : PlacedGuest P) (s : LegacyStream) : Type 0 where
  pub all : List ℕ
  pub told : bytes placed.file.now ≡ Some all
  pub guest : placed.outline ≡ with_emulators (outline (sent Hvm (image_records s.chunks ++ tail_records s.tail))) (device_model s)
  pub frames : frames_in_file (Some all) placed.places ≡ (sent Hvm (image_records s.chunks ++ tail_records s.tail)).frames
