-- What the pages, the order and the length of an image are, in the words of the form.
use Rattle.std.specs.Prelude.{◌≡◌, ◌↔◌, ◌≤◌, ◌<◌, ◌+◌, ◌*◌, ⊤, ℕ, Bool, true, not, List, [], ◌∷◌, length, filter, Some, is_some, ◌&&◌, slice_index}
use Rattle.mig_image.specs.Common.{flat_map, AllByRecursion, Kind, type_has_data, HostOf, HostFrame, IsHostFrame, IsValid}
use Rattle.std.specs.FinMap as maps
use Rattle.mig_image.specs.declared.version.GuestImageVersion.{GuestImageVersion}
use Rattle.mig_image.specs.declared.version.GuestImageVersion.TheVariants.{One, Two}
use Rattle.mig_image.specs.GuestImage.{IsGuestImage, guest_image, frame_head_of, is_left_out, most_width_of, page_text, part_text}
use Rattle.mig_image.specs.GuestImageParts.{has_zero_flag}

-- ---- pages of zeros

-- the frame has a page, and each byte of it is zero
pub record HasZeroPage (frame : HostFrame) : Type 0 where
  pub page : List ℕ
  pub there : frame.page ≡ Some page
  pub zero : (place : ℕ) → place < length page → slice_index page place ≡ 0

-- the zero flag of a frame in version 2 says exactly that
abbrev pub FlagsSayZero : Type 0
FlagsSayZero = (kind : Kind) (width pfn : ℕ) (frame : HostFrame) → width ≤ most_width_of Two → IsHostFrame kind width pfn frame
    → (has_zero_flag Two (frame_head_of Two pfn frame) ≡ true) ↔ HasZeroPage frame

-- and of a type with data nothing is sent behind the head exactly then
abbrev pub UnsentAreZero : Type 0
UnsentAreZero = (kind : Kind) (width pfn : ℕ) (frame : HostFrame) → IsHostFrame kind width pfn frame → type_has_data frame.type ≡ true
    → (page_text Two frame.page ≡ []) ↔ HasZeroPage frame

-- ---- images and hosts

-- a text is the image of this host in this version, and nothing follows it
pub record IsGuestImageIn (version : GuestImageVersion) (text : List ℕ) (h : HostOf) : Type 0 where
  pub image : IsGuestImage text h []
  pub in_version : image.version ≡ version

-- a valid host has exactly one of version 2, and one of version 1 exactly where its width isn't above the most of version 1
pub record HostsHaveGuestImages : Type 0 where
  pub two : (h : HostOf) → IsValid h → (text : List ℕ) × IsGuestImageIn Two text h
  pub one : (h : HostOf) → IsValid h → h.width ≤ most_width_of One → (text : List ℕ) × IsGuestImageIn One text h
  pub narrow : (text : List ℕ) (h : HostOf) → IsGuestImageIn One text h → h.width ≤ most_width_of One
  pub same : (version : GuestImageVersion) (text other : List ℕ) (h : HostOf) → IsGuestImageIn version text h → IsGuestImageIn version other h → text ≡ other

-- ---- the order and the length

-- each frame stands before those of greater PFNs
abbrev pub IsAscending : List (ℕ × HostFrame) → Type 0
IsAscending [] = ⊤
IsAscending (e ∷ es) = AllByRecursion (λ later. e.0 < later.0) es × IsAscending es

-- whether the page of a frame is sent
abbrev pub sends_page : GuestImageVersion → ℕ × HostFrame → Bool
sends_page version e = is_some e.1.page && not (is_left_out version e.1.page)

-- 40 bytes for the head and the number of parts, 16 for each frame, 4096 for each page that is sent, and those of the parts
abbrev pub GuestImagesHaveSizes : Type 0
GuestImagesHaveSizes = (version : GuestImageVersion) (h : HostOf) → IsValid h → length (guest_image version h)
    ≡ 40 + 16 * length (maps.entries h.frames) + 4096 * length (filter (sends_page version) (maps.entries h.frames)) + length (flat_map part_text (maps.entries h.parts))
