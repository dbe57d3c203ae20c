-- Pages of frames that are one behind another in a file.
use Rattle.std.specs.Prelude.{◌≡◌, ◌<◌, ◌≤◌, ℕ, ◌+◌, ◌*◌, List, length, take, drop, Option, Some, None}
use Rattle.std.specs.FinMap as maps
use Rattle.mig_placed.specs.Common.{Frame, FrameWord, IsCell, ValueMap, cell_mark, cell_type, entries_from, pages_of}
use Rattle.mig_placed.specs.InFile.{frames_in_file, place_limit}
use Rattle.mig_placed.specs.declared.runs.Run.{Run}

-- the frames from a number on, as their places read in a file
abbrev pub frames_after : Option (List ℕ) → ValueMap → ℕ → List Frame
frames_after file cells from = entries_from from (maps.entries (frames_in_file file cells))

-- the first cell from a number on: its frame number, and what it says
pub record IsFirstCell (cells : ValueMap) (from : ℕ) (e : ℕ × FrameWord) : Type 0 where
  pub there : (c : ℕ) × IsCell c × (maps.get cells e.0 ≡ Some c) × (cell_type c ≡ e.1.kind) × (cell_mark c ≡ e.1.pfn)
  pub least : (from ≤ e.0) × ((k : ℕ) → from ≤ k → k < e.0 → maps.get cells k ≡ None)

-- the pages of so many frames from a number on are so many, and stand one behind another in any file that has so many bytes
pub record IsRunFrom (cells : ValueMap) (from : ℕ) (run : Run) : Type 0 where
  pub behind : (file : Option (List ℕ)) → frames_after file cells run.behind ≡ drop run.frames (frames_after file cells from)
  pub size : (file : Option (List ℕ)) → length (pages_of (take run.frames (frames_after file cells from))) ≡ 4096 * run.pages
  pub bytes : (all : List ℕ) → run.at + 4096 * run.pages ≤ length all → take (4096 * run.pages) (drop run.at all) ≡ pages_of (take run.frames (frames_after (Some all) cells from))

-- a run has no more pages than frames, and stands where a page may
pub record IsSmallRun (run : Run) : Type 0 where
  pub few : run.pages ≤ run.frames
  pub at : run.at ≤ place_limit
