-- A guest whose pages stay in the file that its stream stands in.
use Rattle.std.specs.Prelude.{◌≡◌, ℕ, List, Option, Some}
use Rattle.mig_libxl.specs.Common.{ImageOf, StreamOf, image_of_stream}
use Rattle.mig_libxl_form.specs.Emulators.{with_emulators}
use Rattle.mig_libxl_form.specs.Stream.{emulators_in}
use Rattle.mig_outline.specs.Outline.{outline}
use Rattle.mig_restore_form.specs.Mean.{sent}
use Rattle.mig_placed.specs.InFile.{frames_in_file}
use Rattle.mig_placing.specs.declared.guest.PlacedGuest.{PlacedGuest}

-- of a stream: the outline of the guest that its image sends, with the parts of its emulators, and places that read in the file as
-- its frames
pub record IsPlacedStream {P : Type 0} (bytes : P → Option (List ℕ)) (placed : PlacedGuest P) (s : StreamOf) : Type 0 where
  pub image : ImageOf
  pub is : image_of_stream s ≡ Some image
  pub all : List ℕ
  pub told : bytes placed.file.now ≡ Some all
  pub guest : placed.outline ≡ with_emulators (outline (sent image.opening.kind image.records)) (emulators_in s)
  pub frames : frames_in_file (Some all) placed.places ≡ (sent image.opening.kind image.records).frames
