-- The guest image of a host, in two versions: a head, the frames by ascending PFN, and the parts by ascending key. All fields
-- are little-endian, and all that isn't named is 0. Version 1 has each page as it is, and no PFN of more than 28 bits; version
-- 2 leaves out the pages that are all zero.
use Rattle.std.specs.Prelude.{◌≡◌, ◌≤◌, ℕ, ◌+◌, ◌*◌, ◌^◌, Bool, true, false, List, [], ◌++◌, length, codes, replicate, Option, Some, None, unwrap_or, ◌==◌, ◌&&◌, if◌then◌else◌}
use Rattle.mig_image.specs.Common.{flat_map, list_all, little_bytes, padding_len, kind_number, number_of, PartKey, HostOf, HostFrame, IsValid}
use Rattle.std.specs.FinMap as maps
use Rattle.mig_image.specs.declared.version.GuestImageVersion.{GuestImageVersion}
use Rattle.mig_image.specs.declared.version.GuestImageVersion.TheVariants.{One, Two}

-- ---- in what the versions differ

-- the name that the file begins with
abbrev pub image_name : GuestImageVersion → List ℕ
image_name One = codes "XGIMAGE1"
image_name Two = codes "XGIMAGE2"

-- how many bits of a frame's word hold the PFN, from bit 0 on
abbrev pub pfn_bits : GuestImageVersion → ℕ
pfn_bits One = 28
pfn_bits Two = 52

-- the first of the four bits that hold the type
abbrev pub type_bit : GuestImageVersion → ℕ
type_bit One = 28
type_bit Two = 60

-- hosts that are wider have no image of this version
abbrev pub most_width_of : GuestImageVersion → ℕ
most_width_of version = 2 ^ pfn_bits version

-- whether pages that are all zero are left out
abbrev pub leaves_out : GuestImageVersion → Bool
leaves_out One = false
leaves_out Two = true

-- ---- pages

-- all bytes are zero
abbrev pub is_all_zero : List ℕ → Bool
is_all_zero page = list_all (λ b. b == 0) page

-- the page that is all zero
unfoldable pub page_left_out : List ℕ
page_left_out = replicate 4096 0

-- whether there is a page, which is left out
abbrev pub is_left_out : GuestImageVersion → Option (List ℕ) → Bool
is_left_out version None = false
is_left_out version (Some page) = leaves_out version && is_all_zero page

-- what is sent of the page of a frame
abbrev pub page_text : GuestImageVersion → Option (List ℕ) → List ℕ
page_text version page = if is_left_out version page then [] else unwrap_or page []

-- ---- the pieces of an image

-- a name, the kind, 0, the width and the number of frames
unfoldable pub host_head : GuestImageVersion → HostOf → List ℕ
host_head version h =
    image_name version ++ (little_bytes 4 (kind_number h.kind) ++ (little_bytes 4 0
    ++ (little_bytes 8 h.width ++ little_bytes 8 (length (maps.entries h.frames)))))

-- the zero flag, bit 52, says that the page is left out
abbrev pub zero_flag : Bool → ℕ
zero_flag left_out = if left_out then 2 ^ 52 else 0

-- the type, the zero flag, and the PFN
abbrev pub host_word : GuestImageVersion → ℕ → HostFrame → ℕ
host_word version pfn f = number_of f.type * 2 ^ type_bit version + (zero_flag (is_left_out version f.page) + pfn)

-- the word, and the machine frame
unfoldable pub frame_head_of : GuestImageVersion → ℕ → HostFrame → List ℕ
frame_head_of version pfn f = little_bytes 8 (host_word version pfn f) ++ little_bytes 8 f.machine

-- and then the raw page, where the type has data and the page isn't left out
abbrev pub frame_text : GuestImageVersion → ℕ × HostFrame → List ℕ
frame_text version e = frame_head_of version e.0 e.1 ++ page_text version e.1.page

-- code, keys and length
unfoldable pub part_head_of : PartKey → ℕ → List ℕ
part_head_of key len = little_bytes 4 key.code ++ (little_bytes 4 key.key1 ++ (little_bytes 4 key.key2 ++ little_bytes 4 len))

-- and then the bytes, and zeros up to a multiple of 8
abbrev pub part_text : PartKey × List ℕ → List ℕ
part_text e = part_head_of e.0 (length e.1) ++ (e.1 ++ replicate (padding_len (length e.1)) 0)

-- the image of a host
unfoldable pub guest_image : GuestImageVersion → HostOf → List ℕ
guest_image version h =
    host_head version h ++ (flat_map (frame_text version) (maps.entries h.frames)
    ++ (little_bytes 8 (length (maps.entries h.parts)) ++ flat_map part_text (maps.entries h.parts)))

-- ---- images

-- a front of the input is the image of this host in one of the versions, and rest follows it; the host is a valid one, and no
-- wider than the version holds
pub record IsGuestImage (input : List ℕ) (h : HostOf) (rest : List ℕ) : Type 0 where
  pub version : GuestImageVersion
  pub valid : IsValid h
  pub holds : h.width ≤ most_width_of version
  pub spelled : input ≡ guest_image version h ++ rest

-- the same, of a host that is no wider than this
pub record IsGuestImageUpTo (widest : ℕ) (input : List ℕ) (h : HostOf) (rest : List ℕ) : Type 0 where
  pub image : IsGuestImage input h rest
  pub narrow : h.width ≤ widest
