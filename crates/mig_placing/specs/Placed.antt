-- A guest whose pages stay in the file that its stream stands in.
use Rattle.std.specs.Prelude.{◌≡◌, ℕ, List, Option, Some}
use Rattle.mig_outline.specs.Outline.{outline}
use Rattle.mig_placed.specs.InFile.{frames_in_file}
use Rattle.mig_restore_form.specs.Mean.{sent}
use Rattle.mig_restore_form.specs.Stream.{ImageOf}
use Rattle.mig_placing.specs.declared.guest.PlacedGuest.{PlacedGuest}

-- of an image: the outline of the guest that its records send, and places that read in the file as its frames
pub record IsPlacedImage {P : Type 0} (bytes : P → Option (List ℕ)) (placed : PlacedGuest P) (image : ImageOf) : Type 0 where
  pub all : List ℕ
  pub told : bytes placed.file.now ≡ Some all
  pub guest : placed.outline ≡ outline (sent image.opening.kind image.records)
  pub frames : frames_in_file (Some all) placed.places ≡ (sent image.opening.kind image.records).frames
