-- What is said of an image in a file, whose entries behind a VERIFY are compared with the pages in the file.
use Rattle.std.specs.Prelude.{◌≡◌, ℕ, List, Option}
use Rattle.mig_guest.specs.Frames.{FrameOf}
use Rattle.mig_outline.specs.Judges.{IsTally}
use Rattle.mig_pagetypes.specs.declared.frame_word.FrameWord.{FrameWord}
use Rattle.mig_placed.specs.InFile.{page_in_file}
use Rattle.mig_restore_form.specs.Mean.{differs_of}
use Rattle.mig_restore_form.specs.Stream.{ImageOf}
use Rattle.mig_placing.specs.declared.comparison.Comparison.{Comparison}

-- the frame that a cell says: its type, and the page at its place
abbrev pub frame_there : Option (List ℕ) → FrameWord → FrameOf
frame_there file cell = record { type = cell.kind; page = page_in_file file cell.pfn }

-- of an image: its tally, and how many entries behind a VERIFY differ
pub record IsComparison (comparison : Comparison) (image : ImageOf) : Type 0 where
  pub tally : IsTally comparison.tally image
  pub differs : comparison.differs ≡ differs_of image.opening.kind image.records
