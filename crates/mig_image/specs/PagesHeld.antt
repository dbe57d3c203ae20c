-- Frames of which the pages stand in a buffer.
use Rattle.std.specs.Prelude.{◌≡◌, ℕ, List, ◌++◌}
use Rattle.mig_guest.specs.Frames.{IsFrame}
use Rattle.mig_image.specs.Common.{AllByRecursion}
use Rattle.mig_records_pages.specs.PageData.{Frame, pages_of}

-- each is a frame that a guest can have
abbrev pub AreFrames : List Frame → Type 0
AreFrames fs = AllByRecursion (λ f. IsFrame f.1) fs

-- the buffer begins with the pages of these frames, one behind another
pub record HoldsPages (buffer : List ℕ) (fs : List Frame) : Type 0 where
  pub frames : AreFrames fs
  pub rest : List ℕ
  pub is : buffer ≡ pages_of fs ++ rest
