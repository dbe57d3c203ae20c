-- What an outline stands for that is in the form in which a guest stands in a machine, with the frames of its guest as they
-- stand in a file.
use Rattle.std.specs.Prelude.{◌≡◌, ℕ, List, Option, Some, is_some, unwrap_or, if◌then◌else◌}
use Rattle.std.specs.FinMap as maps
use Rattle.std.specs.Option.{option_map}
use Rattle.mig_blanked.specs.Behind.{MarkListed, kept_page}
use Rattle.mig_guest.specs.Frames.{FrameMap, FrameOf, entries_from}
use Rattle.mig_guest.specs.Guests.{GuestOf}
use Rattle.mig_host.specs.Hosted.{mfn_in}
use Rattle.mig_host_view.specs.Localised.{localised}
use Rattle.mig_pagestore_index.specs.Indexed.{ValueMap}
use Rattle.mig_pagetypes.specs.declared.page_type.PageType.TheVariants.{Notab}
use Rattle.mig_placed.specs.InFile.{frames_in_file}
use Rattle.mig_pvtables.specs.Blank.{blank, each_value, zero_page}
use Rattle.mig_records_pages.specs.PageData.{Frame}

-- a P2M frame before its page is filled
abbrev pub zeroed_frame : FrameOf
zeroed_frame = record { type = Notab; page = Some zero_page }

-- each marked frame as such a one
abbrev pub seated_frame : ValueMap → ℕ → FrameOf → FrameOf
seated_frame marks pfn frame = if is_some (maps.get marks pfn) then zeroed_frame else frame

abbrev pub seated : ValueMap → GuestOf → GuestOf
seated marks g = record g { frames = each_value (seated_frame marks) g.frames }

-- the outline as it stands in the machine, where those of its frames have pages that the list of the P2M frames names
pub record IsInMachine (base : ℕ) (outline there : GuestOf) : Type 0 where
  pub marks : ValueMap
  pub listed : MarkListed outline.frames outline.parts marks
  pub is : there ≡ localised (mfn_in (seated marks (blank outline)).frames base) (seated marks (blank outline))

-- the page of a frame that has one: the page that is kept of it, or else its own
abbrev pub page_over : (kept page : Option (List ℕ)) → Option (List ℕ)
page_over kept page = option_map (λ own. unwrap_or kept own) page

abbrev pub frame_over : FrameMap → ℕ → FrameOf → FrameOf
frame_over kept pfn frame = record { type = frame.type; page = page_over (kept_page kept pfn) frame.page }

abbrev pub frames_over : FrameMap → FrameMap → FrameMap
frames_over kept frames = each_value (frame_over kept) frames

-- the guest that an outline stands for, with these frames
abbrev pub guest_over : GuestOf → FrameMap → GuestOf
guest_over there frames = record there { frames = frames_over there.frames frames }

-- its frames from a number on, where the frames stand in a file
abbrev pub over_after : FrameMap → Option (List ℕ) → ValueMap → ℕ → List Frame
over_after kept file cells from = entries_from from (maps.entries (frames_over kept (frames_in_file file cells)))
