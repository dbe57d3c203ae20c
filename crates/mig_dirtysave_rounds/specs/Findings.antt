-- What a saver finds at a frame number (PFN), and what of it stands in the stream.
use Rattle.std.specs.Prelude.{◌≡◌, ℕ, ◌-◌, Bool, true, false, List, length, Option, Some, None, is_some, if◌then◌else◌}
use Rattle.mig_dirtysave_rounds.specs.Common.{Kind, PageType, type_has_data, FrameOf, is_type_of, EachEntry, IsWithin, Footprint}
use Rattle.mig_dirtysave_rounds.specs.Forms.{table_of, superpage_in, lost_in, form_of_print}
use Rattle.mig_dirtysave_rounds.specs.declared.found.Found.{Found}
use Rattle.mig_dirtysave_rounds.specs.declared.found.Found.TheVariants as found

-- No frame; a frame as a stream has it; or a table of this type that no stream can have. The reason is its first
-- superpage, or where it has none, its first entry whose machine frame has no PFN.
pub data Finding : Type 0 where
  Gone : Finding
  Shows : FrameOf → Finding
  HasSuperpage : PageType → ℕ → Finding
  LacksFrame : PageType → ℕ → Finding

-- from the slots of these two, and the frame's form
abbrev pub judge : Option ℕ → Option ℕ → FrameOf → Finding
judge (Some slot) lost form = HasSuperpage form.type slot
judge None (Some slot) form = LacksFrame form.type slot
judge None None form = Shows form

-- what there is to find where a frame number has this footprint
abbrev pub judged : Option Footprint → Finding
judged None = Gone
judged (Some f) = judge (superpage_in (table_of f)) (lost_in (table_of f) f.names) (form_of_print f)

-- what was found, with the page that was left
abbrev pub found_as : Found → List ℕ → Finding
found_as found.Gone page = Gone
found_as (found.Shows kind) page = Shows (record { type = kind; page = if type_has_data kind then Some page else None })
found_as (found.Superpage kind slot) page = HasSuperpage kind slot
found_as (found.NoFrame kind slot) page = LacksFrame kind slot

-- ---- what is told of it

-- a table that no stream can have is told as no frame
abbrev pub frame_sent : Finding → Option FrameOf
frame_sent Gone = None
frame_sent (Shows frame) = Some frame
frame_sent (HasSuperpage type slot) = None
frame_sent (LacksFrame type slot) = None

-- and is deferred: it is read again after the pause
abbrev pub is_deferred : Finding → Bool
is_deferred Gone = false
is_deferred (Shows frame) = false
is_deferred (HasSuperpage type slot) = true
is_deferred (LacksFrame type slot) = true

-- the type that was seen, of a deferred table too
abbrev pub type_found : Finding → Option PageType
type_found Gone = None
type_found (Shows frame) = Some frame.type
type_found (HasSuperpage type slot) = Some type
type_found (LacksFrame type slot) = Some type

-- where there is a frame that is a table, it has no superpage, and names only PFNs below the width
abbrev pub NamesWithin : ℕ → Option FrameOf → Type 0
NamesWithin width frame = (f : FrameOf) → frame ≡ Some f → EachEntry (IsWithin (width - 1)) f

-- a frame that a stream of this kind, with so many PFNs, can tell: its type, whether there is a page, the size of the page,
-- and what a table names
pub record IsToldFrame (kind : Kind) (width : ℕ) (frame : FrameOf) : Type 0 where
  pub type : is_type_of kind frame.type ≡ true
  pub in_step : is_some frame.page ≡ type_has_data frame.type
  pub whole : (page : List ℕ) → frame.page ≡ Some page → length page ≡ 4096
  pub entries : EachEntry (IsWithin (width - 1)) frame

-- where there is a frame, a stream of this kind, with so many PFNs, can tell it
abbrev pub CanBeTold : Kind → ℕ → Option FrameOf → Type 0
CanBeTold kind width frame = (f : FrameOf) → frame ≡ Some f → IsToldFrame kind width f

-- where a frame is shown, it has this type
abbrev pub ShowsOnly : PageType → Found → Type 0
ShowsOnly type (found.Shows other) = other ≡ type
ShowsOnly type _ = Unit {0}
