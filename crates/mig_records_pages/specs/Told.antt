-- What the entries of PAGE_DATA records tell of frame numbers (libxc migration stream, "PAGE_DATA").
use Rattle.std.specs.Prelude.{◌<◌, ℕ, List, map, flat_map, Option, Some, None, if◌then◌else◌}
use Rattle.mig_records_pages.specs.Common.{option_map, pfn_limit, FrameOf, Record}
use Rattle.mig_pagetypes.specs.declared.page_type.PageType.TheVariants.{Xtab}
use Rattle.mig_pagetypes.specs.PageTypes.{type_has_data}
use Rattle.mig_records_pages.specs.PageData.{Frame, body_of}
use Rattle.mig_records_pages.specs.declared.held_frame.HeldFrame.{HeldFrame}

-- what an entry says of a frame number: the frame there, or that there is none
pub record FrameTold : Type 0 where
  pub pfn : ℕ
  pub frame : Option FrameOf

-- what an entry that is held tells: a type, and the page where the type has data; or that there is no frame
abbrev pub told_of : HeldFrame → FrameTold
told_of e = record { pfn = e.pfn; frame = option_map (λ kind. record { type = kind; page = if type_has_data kind then Some e.page else None }) e.kind }

abbrev pub told_held : List HeldFrame → List FrameTold
told_held entries = map told_of entries

-- an entry that is held, of a number that a stream can name
abbrev pub HasPfn : HeldFrame → Type 0
HasPfn e = e.pfn < pfn_limit

-- that there is no frame is told by the type XTAB
abbrev pub frame_or_xtab : Option FrameOf → FrameOf
frame_or_xtab None = record { type = Xtab; page = None }
frame_or_xtab (Some frame) = frame

-- the frame of a record that tells this
abbrev pub telling_frame : FrameTold → Frame
telling_frame t = (t.pfn, frame_or_xtab t.frame)

abbrev pub telling_frames : List FrameTold → List Frame
telling_frames ts = map telling_frame ts

-- the PAGE_DATA record that tells these: its type and its body
abbrev pub telling_record : List FrameTold → Record
telling_record ts = (1, body_of (telling_frames ts))

-- what several records tell, in order
abbrev pub all_told : List (List FrameTold) → List FrameTold
all_told batches = flat_map (λ (ts : List FrameTold). ts) batches
