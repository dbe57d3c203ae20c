-- Frames whose pages stand in a file: for each frame number a cell, which says the frame's type and where in the file its page is.
use Rattle.std.specs.Prelude.{ℕ, zero, suc, ◌+◌, ◌-◌, ◌^◌, Bool, true, false, List, [], take, drop, Option, Some, None}
use Rattle.std.specs.FinMap as maps
use Rattle.mig_placed.specs.Common.{FrameMap, FrameOf, PageType, ValueMap, Xtab, cell_mark, cell_type, mapped, type_has_data, whole_page, word_of}

-- the bytes of a page at a place; none of a file that doesn't tell them
abbrev pub page_bytes_at : Option (List ℕ) → ℕ → List ℕ
page_bytes_at None at = []
page_bytes_at (Some all) at = take 4096 (drop at all)

-- the page at a place that is counted from 1; none at 0
unfoldable pub page_in_file : Option (List ℕ) → ℕ → Option (List ℕ)
page_in_file file zero = None
page_in_file file (suc at) = Some (whole_page (page_bytes_at file at))

-- the frame that a cell tells
abbrev pub frame_in_file : Option (List ℕ) → ℕ → FrameOf
frame_in_file file c = record { type = cell_type c; page = page_in_file file (cell_mark c) }

-- the frames that cells tell
abbrev pub frames_in_file : Option (List ℕ) → ValueMap → FrameMap
frames_in_file file cells = mapped (frame_in_file file) cells

-- ---- setting

-- places in a file are below this: a cell has 52 bits for one that is counted from 1
abbrev pub place_limit : ℕ
place_limit = 2 ^ 52 - 1

-- where a page is, counted from 1, where the type has data
abbrev pub place_for : Bool → ℕ → ℕ
place_for true at = at + 1
place_for false at = 0

-- the cell of a frame of this type with its page at this place
abbrev pub cell_for : PageType → ℕ → ℕ
cell_for type at = word_of (record { pfn = place_for (type_has_data type) at; kind = type })

-- the cells, where the frame of pfn is set: XTAB takes it away
abbrev pub with_place : ValueMap → ℕ → PageType → ℕ → ValueMap
with_place cells pfn Xtab at = maps.remove cells pfn
with_place cells pfn type at = maps.insert cells pfn (cell_for type at)
