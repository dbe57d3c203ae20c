-- What the head of a libxl record is judged by, of the records before it.
use Rattle.std.specs.Prelude.{◌≡◌, ◌≤◌, ◌<◌, ℕ, true, false, List, length, Option, Some, None, IsSome}
use Rattle.mig_libxl_form.specs.Common.{most_body, Kind, Pv, most_records, ImageOf}
use Rattle.mig_libxl_form.specs.Content.{LibxlRecord}
use Rattle.mig_libxl_form.specs.LibxlTypes.{libxc_context_type, libxl_end_type}
use Rattle.mig_libxl_form.specs.Among.{has_emulator, image_among}
use Rattle.mig_libxl_form.specs.Judging.{allows_length}
use Rattle.mig_libxl_form.specs.declared.head.RecordsBehind.{RecordsBehind}

-- the kind of guest of an image, where there is one
abbrev pub kind_of_image : Option ImageOf → Option Kind
kind_of_image None = None
kind_of_image (Some image) = Some image.opening.kind

-- what is known of these records
pub record AreBehind (behind : RecordsBehind) (records : List LibxlRecord) : Type 0 where
  pub count : behind.records ≡ length records
  pub emulated : behind.emulated ≡ has_emulator records
  pub image : behind.image ≡ kind_of_image (image_among records)

-- A head of this type and length may follow these records: its body is as long as the type allows, one more record has
-- room, LIBXC_CONTEXT comes first, and END behind it, for a PV guest with no emulator.
pub record MayFollow (behind : RecordsBehind) (type len : ℕ) : Type 0 where
  pub small : len ≤ most_body
  pub allowed : allows_length type len ≡ true
  pub room : behind.records < most_records
  pub first : type ≡ libxc_context_type → behind.image ≡ None
  pub ends : type ≡ libxl_end_type → IsSome behind.image
  pub alone : type ≡ libxl_end_type → behind.image ≡ Some Pv → behind.emulated ≡ false
