-- What is noted of the frames of an image in a file.
use Rattle.std.specs.Prelude.{◌≡◌, ℕ, List, ◌++◌, Option, Some}
use Rattle.mig_guest.specs.Frames.{FrameMap}
use Rattle.mig_pagestore_index.specs.Indexed.{ValueMap}
use Rattle.mig_placed.specs.InFile.{frames_in_file}

-- the file has these bytes, the last of which are left, and cells of places read in it as these frames
pub record ArePlaced (file : Option (List ℕ)) (cells : ValueMap) (all : List ℕ) (left : Option (List ℕ)) (frames : FrameMap) : Type 0 where
  pub told : file ≡ Some all
  pub front : List ℕ
  pub rest : List ℕ
  pub whole : all ≡ front ++ rest
  pub behind : left ≡ Some rest
  pub read : frames_in_file (Some all) cells ≡ frames
