-- Frames of a guest in its blank form that are as they stand in a file.
use Rattle.std.specs.Prelude.{◌≡◌, ℕ, List, Option, take}
use Rattle.mig_blanked.specs.Behind.{behind_after}
use Rattle.mig_guest.specs.Frames.{FrameMap}
use Rattle.mig_pagestore_index.specs.Indexed.{ValueMap}
use Rattle.mig_placed.specs.Runs.{frames_after}

-- so many frames from a number on are as they stand in the file, whatever pages are kept of others
abbrev pub ArePlain : ValueMap → ValueMap → (from count : ℕ) → Type 0
ArePlain marks cells from count = (kept : FrameMap) (file : Option (List ℕ)) → take count (behind_after marks kept file cells from) ≡ take count (frames_after file cells from)
