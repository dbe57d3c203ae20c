-- What entries that are sent say, and what a list of them means.
use Rattle.std.specs.Prelude.{◌≡◌, ◌<◌, ◌≤◌, ℕ, List, ◌++◌, length, Option, Some, None, fold, map}
use Rattle.std.specs.List.{AllByRecursion}
use Rattle.std.specs.FinMap as maps
use Rattle.mig_dirtysave_rounds.specs.Common.{Kind, FrameOf, FrameMap, FrameTold, all_told, most_entries, BatchesCut, History, all_read}
use Rattle.mig_dirtysave_rounds.specs.Findings.{Finding, frame_sent, CanBeTold}

-- the entry of a PFN at which this was found
abbrev pub entry_for : ℕ → Finding → FrameTold
entry_for p found = record { pfn = p; frame = frame_sent found }

-- an entry that a stream of this kind, with so many PFNs, can have
pub record IsToldEntry (kind : Kind) (width : ℕ) (t : FrameTold) : Type 0 where
  pub inside : t.pfn < width
  pub frame : CanBeTold kind width t.frame

abbrev pub AreTold : Kind → ℕ → List FrameTold → Type 0
AreTold kind width ts = AllByRecursion (IsToldEntry kind width) ts

-- the frames with this one at p, or with none there
abbrev pub put_at : FrameMap → ℕ → Option FrameOf → FrameMap
put_at frames p None = maps.remove frames p
put_at frames p (Some frame) = maps.insert frames p frame

abbrev pub put_told : FrameMap → FrameTold → FrameMap
put_told frames t = put_at frames t.pfn t.frame

-- the frames that entries leave, taken in order: of each PFN the last entry decides
abbrev pub frames_meant : List FrameTold → FrameMap
frames_meant ts = fold put_told maps.empty ts

-- the PFNs that entries name, in order
abbrev pub pfns_sent : List FrameTold → List ℕ
pfns_sent ts = map (λ (t : FrameTold). t.pfn) ts

-- ---- a save that is cut off

-- These batches name the PFNs that were read, in that order, but for the last ones, which are at most 1024. Each entry is one
-- that a stream of this kind, with so many PFNs, can have.
pub record TellMost (kind : Kind) (width : ℕ) (h : History) (batches : List (List FrameTold)) : Type 0 where
  pub told : AreTold kind width (all_told batches)
  pub missing : List ℕ
  pub order : all_read width h ≡ pfns_sent (all_told batches) ++ missing
  pub few : length missing ≤ most_entries

-- the records of such batches were written, and a part of one record more
pub record MostSent (start now : Option (List ℕ)) (kind : Kind) (width : ℕ) (h : History) : Type 0 where
  pub batches : List (List FrameTold)
  pub cut : BatchesCut start now batches
  pub most : TellMost kind width h batches
