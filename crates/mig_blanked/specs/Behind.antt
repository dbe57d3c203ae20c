-- What an outline in its blank form stands for, with the frames of its guest as they stand in a file.
use Rattle.std.specs.Prelude.{◌≡◌, ℕ, Bool, true, false, List, Option, Some, None, IsSome, is_some, option_and_then}
use Rattle.std.specs.FinMap as maps
use Rattle.std.specs.Option.{option_map}
use Rattle.mig_guest.specs.Frames.{FrameMap, FrameOf, entries_from}
use Rattle.mig_guest.specs.Guests.{GuestOf}
use Rattle.mig_guest.specs.Parts.{PartMap}
use Rattle.mig_pagestore_index.specs.Indexed.{ValueMap}
use Rattle.mig_pagetypes.specs.PageTypes.{level_of}
use Rattle.mig_placed.specs.InFile.{frames_in_file}
use Rattle.mig_pvtables.specs.Blank.{each_value, zero_page}
use Rattle.mig_pvtables.specs.P2mFrames.{place_of}
use Rattle.mig_records_pages.specs.PageData.{Frame}

-- of these frames just those are marked that the list of the P2M frames names
abbrev pub MarkListed : FrameMap → PartMap → ValueMap → Type 0
MarkListed frames parts marks = (pfn : ℕ) → IsSome (maps.get frames pfn) → is_some (maps.get marks pfn) ≡ is_some (place_of parts pfn)

-- the page that is kept of a frame
abbrev pub kept_page : FrameMap → ℕ → Option (List ℕ)
kept_page kept pfn = option_and_then (λ f. f.page) (maps.get kept pfn)

-- the page of a frame: of a marked one zeros, of a table the page that is kept, and of any other its own
abbrev pub page_behind : (marked : Bool) (level : Option ℕ) (kept page : Option (List ℕ)) → Option (List ℕ)
page_behind true level kept page = option_map (λ _. zero_page) page
page_behind false (Some level) kept page = kept
page_behind false None kept page = page

abbrev pub frame_behind : ValueMap → FrameMap → ℕ → FrameOf → FrameOf
frame_behind marks kept pfn frame = record { type = frame.type; page = page_behind (is_some (maps.get marks pfn)) (level_of frame.type) (kept_page kept pfn) frame.page }

abbrev pub frames_behind : ValueMap → FrameMap → FrameMap → FrameMap
frames_behind marks kept frames = each_value (frame_behind marks kept) frames

-- the guest that an outline stands for, with these frames
abbrev pub guest_behind : GuestOf → ValueMap → FrameMap → GuestOf
guest_behind outline marks frames = record outline { frames = frames_behind marks outline.frames frames }

-- its frames from a number on, where the frames stand in a file
abbrev pub behind_after : ValueMap → FrameMap → Option (List ℕ) → ValueMap → ℕ → List Frame
behind_after marks kept file cells from = entries_from from (maps.entries (frames_behind marks kept (frames_in_file file cells)))
