-- The headers of a stream (libxc migration stream, "Image Header" and "Domain Header"; libxl migration stream, "Header"): what is wrong with them, and what they spell.
use Rattle.std.specs.Prelude.{◌≡◌, ◌⊎◌, ℕ, ◌-◌, ◌^◌, ◌/◌, ◌%◌, List, [], ◌∷◌, ◌++◌, length, replicate, Option, Some, None, Result, Ok, Err, Bool, ◌==◌, ◌&&◌, not, if◌then◌else◌}
use Rattle.byteorder.specs.Endian.{little_bytes, big_bytes}
use Rattle.mig_bytes.specs.Fields.{le16, le32, be16, be32, be64}
use Rattle.mig_headers.specs.declared.kind.Kind.{Kind}
use Rattle.mig_headers.specs.declared.kind.Kind.TheVariants.{Pv, Hvm}
use Rattle.mig_headers.specs.declared.fault.Cause.{Cause}
use Rattle.mig_headers.specs.declared.fault.Cause.TheVariants.{NotStream, BadId, BadVersion, BigEndian, BadKind, BadPageShift}
use Rattle.mig_headers.specs.Rows.{first_fault}

-- 64 ones
abbrev pub marker : ℕ
marker = 2 ^ 64 - 1

-- "XENF"
abbrev pub image_id : ℕ
image_id = 0x58454E46

-- pages have 2 ^ 12 bytes
abbrev pub page_shift : ℕ
page_shift = 12

-- the type in the domain header
abbrev pub kind_number : Kind → ℕ
kind_number Pv = 1
kind_number Hvm = 2

-- the first 8 bytes of an image
abbrev pub marker_rows : List ℕ → List (Bool × Cause)
marker_rows bytes = (not (be64 bytes 0 == marker), NotStream) ∷ []

-- the 16 bytes behind the marker: id, version and options, of which bit 0 means a big-endian image
abbrev pub image_rows : List ℕ → List (Bool × Cause)
image_rows rest =
    (not (be32 rest 0 == image_id), BadId)
    ∷ (not (be32 rest 4 == 2) && not (be32 rest 4 == 3), BadVersion (be32 rest 4))
    ∷ (be16 rest 8 % 2 == 1, BigEndian)
    ∷ []

-- the 16 bytes of the domain header: type and page shift
abbrev pub domain_rows : List ℕ → List (Bool × Cause)
domain_rows bytes =
    (not (le32 bytes 0 == 1) && not (le32 bytes 0 == 2), BadKind (le32 bytes 0))
    ∷ (not (le16 bytes 4 == page_shift), BadPageShift (le16 bytes 4))
    ∷ []

abbrev pub fault_of_marker : List ℕ → Option Cause
fault_of_marker bytes = first_fault (marker_rows bytes)

abbrev pub fault_of_image : List ℕ → Option Cause
fault_of_image rest = first_fault (image_rows rest)

abbrev pub fault_of_domain : List ℕ → Option Cause
fault_of_domain bytes = first_fault (domain_rows bytes)

-- what a part reads as, where it has no fault
abbrev pub unless_faulty : {H : Type 0} → Option Cause → H → Result H Cause
unless_faulty None header = Ok header
unless_faulty (Some cause) header = Err cause

-- "LibxlFmt"
abbrev pub libxl_ident : ℕ
libxl_ident = 0x4C6962786C466D74

-- the 8 bytes behind the ident: version and options, of which bit 0 means a big-endian stream
abbrev pub libxl_rows : List ℕ → List (Bool × Cause)
libxl_rows rest =
    (not (be32 rest 0 == 2), BadVersion (be32 rest 0))
    ∷ (be32 rest 4 % 2 == 1, BigEndian)
    ∷ []

abbrev pub fault_of_libxl : List ℕ → Option Cause
fault_of_libxl rest = first_fault (libxl_rows rest)

-- bit 1 of the options: the stream was made from a legacy one
abbrev pub is_from_legacy : ℕ → Bool
is_from_legacy options = options / 2 % 2 == 1

-- the kind of a type that has no fault
abbrev pub kind_of_number : ℕ → Kind
kind_of_number number = if number == 1 then Pv else Hvm

-- 24 bytes that spell the image header of a version; what isn't named has any value
pub record IsImageHeader (bytes : List ℕ) (version : ℕ) : Type 0 where
  pub size : length bytes ≡ 24
  pub all_ones : be64 bytes 0 ≡ marker
  pub id : be32 bytes 8 ≡ image_id
  pub names_version : be32 bytes 12 ≡ version
  pub known_version : (version ≡ 2) ⊎ (version ≡ 3)
  pub little_endian : be16 bytes 16 % 2 ≡ 0

-- the marker, and what is behind it
unfoldable pub behind_marker : List ℕ → List ℕ
behind_marker rest = big_bytes 8 marker ++ rest

-- 16 bytes that spell a domain header; what isn't named has any value
pub record IsDomainHeader (bytes : List ℕ) (kind : Kind) (major minor : ℕ) : Type 0 where
  pub size : length bytes ≡ 16
  pub names_kind : le32 bytes 0 ≡ kind_number kind
  pub shift : le16 bytes 4 ≡ page_shift
  pub names_major : le32 bytes 8 ≡ major
  pub names_minor : le32 bytes 12 ≡ minor

-- marker, id, version, options and 6 bytes more, those that have any value being 0
unfoldable pub image_header_of : ℕ → List ℕ
image_header_of version =
    big_bytes 8 marker ++ (big_bytes 4 image_id ++ (big_bytes 4 version ++ (big_bytes 2 0 ++ replicate 6 0)))

-- type, page shift, the reserved field 0, and the Xen version
unfoldable pub domain_header_of : Kind → ℕ → ℕ → List ℕ
domain_header_of kind major minor =
    little_bytes 4 (kind_number kind) ++ (little_bytes 2 page_shift ++ (little_bytes 2 0 ++ (little_bytes 4 major ++ little_bytes 4 minor)))

-- 16 bytes that spell the header of a libxl stream; what isn't named has any value
pub record IsLibxlHeader (bytes : List ℕ) (legacy : Bool) : Type 0 where
  pub size : length bytes ≡ 16
  pub ident : be64 bytes 0 ≡ libxl_ident
  pub version : be32 bytes 8 ≡ 2
  pub little_endian : be32 bytes 12 % 2 ≡ 0
  pub from_legacy : is_from_legacy (be32 bytes 12) ≡ legacy

-- the ident, and what is behind it
unfoldable pub behind_ident : List ℕ → List ℕ
behind_ident rest = big_bytes 8 libxl_ident ++ rest

-- ident, version and options, of which bit 1 alone may be set
unfoldable pub libxl_header_of : Bool → List ℕ
libxl_header_of legacy = big_bytes 8 libxl_ident ++ (big_bytes 4 2 ++ big_bytes 4 (if legacy then 2 else 0))
