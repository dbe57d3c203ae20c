-- The outline of a guest: its page tables, and of all other frames whether they are NOTAB. It is a guest again, in which XALLOC
-- stands for NOTAB and BROKEN for all other types without a table, so that those frames have no pages.
use Rattle.std.specs.Prelude.{ℕ, List, Option, Some, None}
use Rattle.mig_outline.specs.Common.{Kind, level_of, FrameMap, FrameOf, framed, GuestOf, each_value, type_in_guest, put_content_by, FrameEntry, Content}
use Rattle.mig_pagetypes.specs.declared.page_type.PageType.{PageType}
use Rattle.mig_pagetypes.specs.declared.page_type.PageType.TheVariants.{Notab, Broken, Xalloc}
use Rattle.mig_restore.specs.Kept.{kept_guest}

abbrev pub outline_type : PageType → PageType
outline_type Notab = Xalloc
outline_type Xalloc = Broken
outline_type type = type

abbrev pub outline_page : Option ℕ → Option (List ℕ) → Option (List ℕ)
outline_page (Some level) page = page
outline_page None page = None

abbrev pub outline_frame : FrameOf → FrameOf
outline_frame frame = record { type = outline_type frame.type; page = outline_page (level_of frame.type) frame.page }

abbrev pub outline_frames : FrameMap → FrameMap
outline_frames frames = each_value (λ _ frame. outline_frame frame) frames

abbrev pub outline : GuestOf → GuestOf
outline g = kept_guest outline_frames g

-- ---- what an outline says of the guest: what XALLOC stands for is NOTAB

abbrev pub seen_type : PageType → PageType
seen_type Xalloc = Notab
seen_type type = type

abbrev pub seen_frame : FrameOf → FrameOf
seen_frame frame = record { type = seen_type frame.type; page = frame.page }

abbrev pub seen_frames : FrameMap → FrameMap
seen_frames frames = each_value (λ _ frame. seen_frame frame) frames

-- ---- what is put into an outline

-- a frame of this type, with this page, set in an outline
abbrev pub outline_framed : FrameMap → ℕ → PageType → Option (List ℕ) → FrameMap
outline_framed frames pfn type page = framed frames pfn (outline_type type) (outline_page (level_of type) page)

abbrev pub put_outline_entry : Kind → FrameMap → FrameEntry → FrameMap
put_outline_entry kind frames e = outline_framed frames e.pfn (type_in_guest kind e.type) e.page

abbrev pub put_outline_content : GuestOf → Content → GuestOf
put_outline_content g c = put_content_by put_outline_entry g c
