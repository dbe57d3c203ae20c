-- The frames of a guest: those of its store, how many a guest may have, of which types, and in which order they come.
use Rattle.std.specs.Prelude.{◌≡◌, ℕ, ◌+◌, ◌≤◌, Bool, true, false, List, [], ◌∷◌, length, filter, nat_le, Option, Some, None}
use Rattle.mig_guest.specs.Common.{nat_cmp, Kind, Pv, Hvm, PageType, Notab, Broken, Xalloc, Xtab, most_frames}
use Rattle.std.specs.FinMap as maps
pub use Rattle.mig_pagestore.specs.Frames.{FrameOf, FrameMap, IsFrame, IsSized, framed, frame_code, frames_code}

-- no more frames than a guest may have
abbrev pub IsFew : {X : Type 0} → maps.FinMap nat_cmp X → Type 0
IsFew frames = length (maps.entries frames) ≤ most_frames

-- the types that a frame of an HVM guest has
abbrev pub is_hvm_type : PageType → Bool
is_hvm_type Notab = true
is_hvm_type Broken = true
is_hvm_type Xalloc = true
is_hvm_type _ = false

-- the types that a frame of a guest of this kind has
abbrev pub is_type_of : Kind → PageType → Bool
is_type_of Pv Xtab = false
is_type_of Pv type = true
is_type_of Hvm type = is_hvm_type type

-- the entries whose numbers are p or more
abbrev pub entries_from : {X : Type 0} → ℕ → List (ℕ × X) → List (ℕ × X)
entries_from p es = filter (λ e. nat_le p e.0) es

-- the first of the entries from p on, where there is one, and then those behind it
abbrev pub NextEntry : {X : Type 0} → ℕ → List (ℕ × X) → Option (ℕ × X) → Type 0
NextEntry p es None = entries_from p es ≡ []
NextEntry p es (Some e) = entries_from p es ≡ e ∷ entries_from (e.0 + 1) es
