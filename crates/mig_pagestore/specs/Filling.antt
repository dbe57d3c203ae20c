-- What a page that is filled in its place does to the pages and to the frames that have them.
use Rattle.std.specs.Prelude.{◌≡◌, ℕ, zero, suc, ◌+◌, ◌⊎◌, true, List, [], ◌∷◌, ◌++◌, length, slice_set, Some, Result, Ok, Err}
use Rattle.std.specs.FinMap as maps
use Rattle.mig_pagestore.specs.Common.{PageType}
use Rattle.mig_pagestore.specs.Frames.{Framed}
use Rattle.mig_pagestore.specs.FrameView.{zero_bytes, is_zeros}
use Rattle.mig_pagestore.specs.Packed.{Placed}

-- the page that was filled is behind the others; where that failed, the pages and the room are as they were
abbrev pub PushesFilled : {X E : Type 0} → Placed → Placed → List ℕ → Result X E → Type 0
PushesFilled old new page (Ok x) = (length page ≡ 4096) × (new.pages ≡ old.pages ++ page ∷ []) × (new.room + 1 ≡ old.room)
PushesFilled old new page (Err e) = new ≡ old

-- a page w behind the others stays there as the page of k
abbrev pub StaysLast : ℕ → List ℕ → List ℕ → List (List ℕ) → List ℕ → List (List ℕ) → ℕ → Type 0
StaysLast k w pfns pages pfns' pages' mark = (pfns' ≡ pfns ++ k ∷ []) × (pages' ≡ pages ++ w ∷ []) × (mark ≡ length pfns')

-- it is zeros, and has given its place back
abbrev pub GivesBack : List ℕ → List ℕ → List (List ℕ) → List ℕ → List (List ℕ) → ℕ → Type 0
GivesBack w pfns pages pfns' pages' mark = (w ≡ zero_bytes) × (pfns' ≡ pfns) × (pages' ≡ pages) × (is_zeros mark ≡ true)

-- a page w behind the others becomes the page of k, which has this mark then: where k has no place it stays there or gives its
-- place back, else it comes over the page at k's place
abbrev pub PlacesLast : ℕ → ℕ → List ℕ → List ℕ → List (List ℕ) → List ℕ → List (List ℕ) → ℕ → Type 0
PlacesLast zero k w pfns pages pfns' pages' mark = StaysLast k w pfns pages pfns' pages' mark ⊎ GivesBack w pfns pages pfns' pages' mark
PlacesLast (suc i) k w pfns pages pfns' pages' mark = (pfns' ≡ pfns) × (pages' ≡ slice_set pages i w) × (mark ≡ suc i)

-- the frame has the page that was filled; where that failed, the frames are as they were, and so many are spare
abbrev pub PutsFilled : {X E : Type 0} → Framed → Framed → ℕ → PageType → List ℕ → Result X E → Type 0
PutsFilled old new pfn type page (Ok x) = new.frames ≡ maps.insert old.frames pfn (record { type = type; page = Some page })
PutsFilled old new pfn type page (Err e) = new ≡ old
