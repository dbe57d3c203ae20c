-- How an index of cells and pages by place are seen as frames.
use Rattle.std.specs.Prelude.{◌≡◌, ◌≢◌, ◌==◌, ℕ, zero, suc, ◌+◌, ◌-◌, ◌<◌, ◌≤◌, ◌^◌, Bool, true, false, List, [], cond, length, replicate, slice_index, slice_index_or, Option, Some, None}
use Rattle.mig_pagestore.specs.Common.{nat_cmp, option_map, type_of, type_or_none, type_has_data, PageType, Xtab}
use Rattle.std.specs.FinMap as maps
use Rattle.std.specs.FinSet as sets
use Rattle.mig_pagestore_index.specs.Indexed.{ValueMap}
use Rattle.mig_pagetypes.specs.FrameWords.{word_type, word_pfn}
use Rattle.mig_pagestore.specs.Frames.{FrameOf, FrameMap}
use Rattle.mig_pagestore.specs.Mapped.{mapped}

-- the page that an array is: all of its bytes, since it has 4096
abbrev pub whole_page : List ℕ → List ℕ
whole_page w = cond (length w == 4096) w (replicate 4096 0)

-- a page of zeros, which takes no place
abbrev pub zero_bytes : List ℕ
zero_bytes = replicate 4096 0

-- a cell is a frame word: it has a frame's type, and for its PFN a mark. A mark is the place of the frame's page, counted from 1;
-- 0 is no page, and 2^51 a page of zeros, which has no place
unfoldable pub cell_type : ℕ → PageType
cell_type c = type_or_none (type_of (word_type c))

unfoldable pub cell_mark : ℕ → ℕ
cell_mark c = word_pfn c

unfoldable pub is_zeros : ℕ → Bool
is_zeros m = (m == 2251799813685248)

abbrev pub place_of_mark : ℕ → ℕ
place_of_mark m = cond (is_zeros m) 0 m

abbrev pub zeros_in : ℕ → ℕ
zeros_in m = cond (is_zeros m) 1 0

abbrev pub cell_place : ℕ → ℕ
cell_place c = place_of_mark (cell_mark c)

abbrev pub is_place : ℕ → Bool
is_place zero = false
is_place (suc i) = true

-- a cell says of a frame that is there what its page is, exactly where its type has data
pub record IsCell (c : ℕ) : Type 0 where
  pub there : cell_type c ≢ Xtab
  pub in_step : is_place (cell_mark c) ≡ type_has_data (cell_type c)

-- each cell is one
abbrev pub AreCells : ValueMap → Type 0
AreCells cells = (q c : ℕ) → maps.get cells q ≡ Some c → IsCell c

-- the page at a place; none at 0
unfoldable pub page_at_place : List (List ℕ) → ℕ → Option (List ℕ)
page_at_place pages zero = None
page_at_place pages (suc i) = Some (whole_page (slice_index_or pages i []))

-- the page that a mark stands for
abbrev pub page_of_mark : List (List ℕ) → ℕ → Option (List ℕ)
page_of_mark pages m = cond (is_zeros m) (Some zero_bytes) (page_at_place pages m)

abbrev pub frame_at : List (List ℕ) → ℕ → FrameOf
frame_at pages c = record { type = cell_type c; page = page_of_mark pages (cell_mark c) }

abbrev pub frames_seen : List (List ℕ) → ValueMap → FrameMap
frames_seen pages cells = mapped (frame_at pages) cells

abbrev pub place_or_0 : Option ℕ → ℕ
place_or_0 None = 0
place_or_0 (Some c) = cell_place c

abbrev pub mark_or_0 : Option ℕ → ℕ
mark_or_0 None = 0
mark_or_0 (Some c) = cell_mark c

abbrev pub mark_of_page : ValueMap → ℕ → ℕ
mark_of_page cells q = mark_or_0 (maps.get cells q)

-- the place of the page of this PFN; 0 where it has none
abbrev pub place_of_page : ValueMap → ℕ → ℕ
place_of_page cells q = place_or_0 (maps.get cells q)

-- the pages of so many PFNs, from this one on, are at so many places, from this one on
abbrev pub LieInRun : ValueMap → List (List ℕ) → ℕ → ℕ → ℕ → Type 0
LieInRun cells pages pfn place n = (i : ℕ) → i < n → (place_of_page cells (pfn + i) ≡ place + i) × (length (slice_index_or pages (place + i - 1) []) ≡ 4096)

-- F leads from each PFN to its place, and from no other number to a place
pub record Leads (F : ℕ → ℕ) (pfns : List ℕ) : Type 0 where
  pub there : (i : ℕ) → i < length pfns → F (slice_index pfns i) ≡ i + 1
  pub back : (q : ℕ) → 0 < F q → (F q ≤ length pfns) × (slice_index pfns (F q - 1) ≡ q)

-- the cells lead to the pages, each to its own, and each page is led to
pub record IsLed (cells : ValueMap) (pfns : List ℕ) (pages : List (List ℕ)) : Type 0 where
  pub typed : AreCells cells
  pub leads : Leads (place_of_page cells) pfns
  pub as_many : length pfns ≡ length pages

-- but for the frame of k, both hold the same frames
pub record SameBut (k : ℕ) (pages : List (List ℕ)) (cells : ValueMap) (pages' : List (List ℕ)) (cells' : ValueMap) : Type 0 where
  pub same : (q : ℕ) → q ≢ k → option_map (frame_at pages') (maps.get cells' q) ≡ option_map (frame_at pages) (maps.get cells q)

-- the cell of k leads to another place, and says the same else
pub record Moved (cells cells' : ValueMap) (k place : ℕ) : Type 0 where
  pub cell : ℕ
  pub is : IsCell cell
  pub leads : cell_place cell ≡ place
  pub same_type : option_map cell_type (maps.get cells k) ≡ Some (cell_type cell)
  pub set : cells' ≡ maps.insert cells k cell

-- n cells have a page of zeros
pub record CountsZeros (cells : ValueMap) (n : ℕ) : Type 0 where
  pub pfns : sets.FinSet nat_cmp
  pub same : (q : ℕ) → sets.contains pfns q ≡ is_zeros (mark_of_page cells q)
  pub many : sets.len pfns ≡ n

-- what `spare` more pages need is there, and for each page of zeros what it needs to have a place
pub record HasFrameRoom (ready pfns capacity room spare zeros : ℕ) : Type 0 where
  pub numbers : spare ≤ ready
  pub pages : spare + zeros ≤ room
  pub places : pfns + spare + zeros ≤ capacity
  pub few : pfns + spare + zeros < 2 ^ 31
