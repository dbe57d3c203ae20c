-- What the heads of a guest image say: the fields of the file's head, of a frame's and of a part's, and what stands already.
use Rattle.std.specs.Prelude.{ℕ, ◌/◌, ◌%◌, ◌^◌, Bool, false, List, Option, Some, None, ◌==◌, ◌&&◌, not, nat_le, if◌then◌else◌}
use Rattle.mig_image.specs.Common.{list_any, le32, le64, be64, kind_of_number, Kind, type_of, type_or_none, type_has_data, PartKey, HostOf, HostFrame, row_of, PartMap}
use Rattle.std.specs.Ordering.{is_lt}
use Rattle.std.specs.FinMap as maps
use Rattle.mig_pagetypes.specs.declared.page_type.PageType.{PageType}
use Rattle.mig_guest.specs.declared.part_code.PartCode.{PartCode}
use Rattle.mig_guest.specs.Order.{part_cmp}
use Rattle.mig_image.specs.declared.version.GuestImageVersion.{GuestImageVersion}
use Rattle.mig_image.specs.declared.version.GuestImageVersion.TheVariants.{One, Two}
use Rattle.mig_image.specs.GuestImage.{pfn_bits, type_bit, leaves_out, page_left_out}

-- ---- the head, 32 bytes

-- "XGIMAGE1" and "XGIMAGE2", the highest byte first
abbrev pub name_number : GuestImageVersion → ℕ
name_number One = 0x5847494D41474531
name_number Two = 0x5847494D41474532

-- the version that a name tells
abbrev pub version_named : ℕ → GuestImageVersion
version_named name = if name == name_number Two then Two else One

abbrev pub head_version : List ℕ → GuestImageVersion
head_version head = version_named (be64 head 0)

-- the host that a head opens, so far without frames and parts
abbrev pub opened : List ℕ → HostOf
opened head = record { kind = kind_of_number (le32 head 8); width = le64 head 16; frames = maps.empty; parts = maps.empty }

-- ---- a frame behind the frames of a host: 16 bytes, and a page where the type has data and the page isn't left out

abbrev pub head_pfn : GuestImageVersion → List ℕ → ℕ
head_pfn version head = le64 head 0 % 2 ^ pfn_bits version

abbrev pub head_type_number : GuestImageVersion → List ℕ → ℕ
head_type_number version head = le64 head 0 / 2 ^ type_bit version % 2 ^ 4

-- the type in a head; a reserved one is as if it were no frame's
abbrev pub head_type : GuestImageVersion → List ℕ → PageType
head_type version head = type_or_none (type_of (head_type_number version head))

-- the zero flag, which only a version that leaves out pages has
abbrev pub has_zero_flag : GuestImageVersion → List ℕ → Bool
has_zero_flag version head = leaves_out version && (le64 head 0 / 2 ^ 52 % 2 == 1)

-- some frame of the host has this PFN or a greater one
abbrev pub has_frame_from : HostOf → ℕ → Bool
has_frame_from h pfn = list_any (λ e. nat_le pfn e.0) (maps.entries h.frames)

-- whether a page stands behind a head
abbrev pub is_sent : GuestImageVersion → List ℕ → Bool
is_sent version head = type_has_data (head_type version head) && not (has_zero_flag version head)

-- the page of a frame behind whose head none stands
abbrev pub page_unsent : GuestImageVersion → List ℕ → Option (List ℕ)
page_unsent version head = if type_has_data (head_type version head) then Some page_left_out else None

-- the frame that a head and a page say
abbrev pub frame_said : GuestImageVersion → List ℕ → Option (List ℕ) → HostFrame
frame_said version head page = record { type = head_type version head; machine = le64 head 8; page = page }

-- ---- a part behind the parts of a host: 16 bytes, so many bytes, and zeros

abbrev pub head_key : List ℕ → PartKey
head_key head = record { code = le32 head 0; key1 = le32 head 4; key2 = le32 head 8 }

-- the code has a row for this kind, with these keys
abbrev pub code_fits : Option PartCode → Kind → PartKey → Bool
code_fits None kind key = false
code_fits (Some code) kind key = (row_of code).of_kind kind && (row_of code).keys key.key1 key.key2

abbrev pub code_allows : Option PartCode → ℕ → ℕ → Bool
code_allows None width len = false
code_allows (Some code) width len = (row_of code).allows width len

-- some part of the host has this key or a greater one
abbrev pub has_part_from : PartMap → PartKey → Bool
has_part_from parts key = list_any (λ e. not (is_lt (part_cmp e.0 key))) (maps.entries parts)
