-- Judging an image: two headers, and records up to the one that ends it.
use Rattle.std.specs.Prelude.{◌≡◌, ℕ, List, length}
use Rattle.mig_restore_form.specs.Common.{le32, be32, Passes, Faulty, sequence_at, fault_of_marker, fault_of_image, fault_of_domain, kind_of_number, behind_marker, Kind, Cause, Truncated, Place}
use Rattle.mig_bytes.specs.Judged.{Judged, ◌>>=◌, placed, said_at}
use Rattle.mig_headers.specs.declared.fault.Place.TheVariants.{ImageHeader, DomainHeader, Record}
use Rattle.mig_restore_form.specs.Record.{StreamRecord, is_ended}
use Rattle.mig_restore_form.specs.Judging.{Opening, opening_of, next_at}

-- ---- the headers

abbrev pub marker_at : List ℕ → Judged Cause (List ℕ)
marker_at input = said_at Truncated fault_of_marker (λ marker. marker) 8 input

-- the image header behind its marker: the version
abbrev pub version_at : List ℕ → Judged Cause ℕ
version_at input = said_at Truncated fault_of_image (λ header. be32 header 4) 16 input

-- the domain header: the kind of guest
abbrev pub kind_at : List ℕ → Judged Cause Kind
kind_at input = said_at Truncated fault_of_domain (λ header. kind_of_number (le32 header 0)) 16 input

-- both headers behind the marker
abbrev pub opening_behind : List ℕ → Judged (Place × Cause) Opening
opening_behind input = do
  version ← placed ImageHeader (version_at input)
  kind ← placed DomainHeader (kind_at version.1)
  Passes (opening_of version.0 kind.0) kind.1

unfoldable pub opening_at : List ℕ → Judged (Place × Cause) Opening
opening_at input = do
  marker ← placed ImageHeader (marker_at input)
  opening_behind marker.1

-- ---- the image

-- what an image says: its headers, and its records
pub record ImageOf : Type 0 where
  pub opening : Opening
  pub records : List StreamRecord

abbrev pub image_of : Opening → List StreamRecord → ImageOf
image_of o records = record { opening = o; records = records }

-- a record behind these records, at its place
abbrev pub placed_next : Opening → List StreamRecord → List ℕ → Judged (Place × Cause) StreamRecord
placed_next o records input = placed (Record (length records)) (next_at o records input)

-- records up to the one that ends the image
abbrev pub records_at : Opening → List ℕ → Judged (Place × Cause) ImageOf
records_at o input = do
  records ← sequence_at is_ended (placed_next o) input
  Passes (image_of o records.0) records.1

unfoldable pub image_at : List ℕ → Judged (Place × Cause) ImageOf
image_at input = do
  opening ← opening_at input
  records_at opening.0 opening.1

-- the image that a right marker and these bytes begin with
unfoldable pub image_behind : List ℕ → Judged (Place × Cause) ImageOf
image_behind rest = image_at (behind_marker rest)

-- the input is refused at this place, for this cause, and rest follows the faulty part
abbrev pub IsRefused : List ℕ → Place → Cause → List ℕ → Type 0
IsRefused input place cause rest = image_at input ≡ Faulty (place, cause) rest
