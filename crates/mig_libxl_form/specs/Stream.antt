-- Judging a stream of either form: a bare image, or an image inside a libxl stream (libxl migration stream, "Header" and
-- "Records").
use Rattle.std.specs.Prelude.{◌≡◌, ℕ, ◌&&◌, ◌==◌, List, length, drop, nat_le, Option, Some, if◌then◌else◌}
use Rattle.mig_libxl_form.specs.Common.{be64, Passes, Faulty, sequence_at, libxl_ident, fault_of_libxl, Cause, Truncated, Place, GuestOf, mean, ImageOf, image_at}
use Rattle.mig_bytes.specs.Judged.{Judged, ◌>>=◌, placed, said_at}
use Rattle.mig_headers.specs.declared.fault.Place.TheVariants.{LibxlHeader}
use Rattle.mig_libxl_form.specs.Content.{LibxlRecord}
use Rattle.mig_libxl_form.specs.Among.{is_libxl_ended, image_among}
use Rattle.mig_libxl_form.specs.Emulators.{EmulatorsOf, no_emulators, emulators_of, with_emulators}
use Rattle.mig_libxl_form.specs.Judging.{libxl_record_at}

-- records up to the one that ends the stream
abbrev pub libxl_records_at : List ℕ → Judged (Place × Cause) (List LibxlRecord)
libxl_records_at input = sequence_at is_libxl_ended libxl_record_at input

-- ---- a stream of either form

-- a bare image; or the records of a libxl stream, one of which is followed by the image
pub data StreamOf : Type 0 where
  Bare : ImageOf → StreamOf
  Wrapped : List LibxlRecord → StreamOf

abbrev pub header_at : List ℕ → Judged Cause (List ℕ)
header_at input = said_at Truncated fault_of_libxl (λ header. header) 8 input

-- a libxl stream behind its ident
unfoldable pub wrapped_at : List ℕ → Judged (Place × Cause) StreamOf
wrapped_at input = do
  header ← placed LibxlHeader (header_at input)
  records ← libxl_records_at header.1
  Passes (Wrapped records.0) records.1

abbrev pub bare_at : List ℕ → Judged (Place × Cause) StreamOf
bare_at input = do
  image ← image_at input
  Passes (Bare image.0) image.1

-- the first 8 bytes tell the form
unfoldable pub stream_at : List ℕ → Judged (Place × Cause) StreamOf
stream_at input = if nat_le 8 (length input) && (be64 input 0 == libxl_ident) then wrapped_at (drop 8 input) else bare_at input

-- the input is refused at this place, for this cause, and rest follows the faulty part
abbrev pub IsStreamRefused : List ℕ → Place → Cause → List ℕ → Type 0
IsStreamRefused input place cause rest = stream_at input ≡ Faulty (place, cause) rest

-- ---- what a stream means

-- its image
abbrev pub image_of_stream : StreamOf → Option ImageOf
image_of_stream (Bare image) = Some image
image_of_stream (Wrapped records) = image_among records

-- its emulators
abbrev pub emulators_in : StreamOf → EmulatorsOf
emulators_in (Bare image) = no_emulators
emulators_in (Wrapped records) = emulators_of records

-- the guest that its image means, with the parts of its emulators
abbrev pub guest_of : ImageOf → StreamOf → GuestOf
guest_of image s = with_emulators (mean image.opening.kind image.records) (emulators_in s)
