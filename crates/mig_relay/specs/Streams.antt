-- Judging a stream of either form but for what END asks of the whole guest, and for how many bytes an emulator's pairs spell.
use Rattle.std.specs.Prelude.{◌≡◌, ℕ, ◌&&◌, ◌==◌, List, [], length, drop, nat_le, if◌then◌else◌}
use Rattle.mig_relay.specs.Common.{code_number, EmulatorPairs, emulator_pairs_type, emulator_context_type, libxc_context_type, padding_len, le32, be64, Passes, Faulty, onward, LibxlRecord, LibxlContent, Image, Pairs, libxl_ident, Cause, Truncated, Place, is_libxl_ended, StreamOf, header_at, Bare, Wrapped, fault_of_pair_body, Judged, ◌>>=◌, part, placed, said_at}
use Rattle.mig_headers.specs.declared.fault.Place.TheVariants.{LibxlHeader, LibxlRecord as AtRecord}
use Rattle.mig_libxl_form.specs.Judging.{emulator_key, context_at, skipped_at, libxl_head_at}
use Rattle.mig_policy.specs.PairMaps.{pairs_in}
use Rattle.mig_relay.specs.Images.{open_image_at}

abbrev pub open_pairs_at : ℕ → List ℕ → Judged Cause LibxlContent
open_pairs_at len input = said_at Truncated fault_of_pair_body (λ body. Pairs (emulator_key (code_number EmulatorPairs) body) (pairs_in (drop 8 body))) len input

abbrev pub open_body : ℕ → ℕ → List ℕ → Judged Cause LibxlContent
open_body type len input = if type == emulator_pairs_type then open_pairs_at len input else if type == emulator_context_type then context_at len input else skipped_at len input

abbrev pub open_inner : List ℕ → Judged (Place × Cause) LibxlContent
open_inner input = do
  image ← open_image_at input
  Passes (Image image.0) image.1

-- what is behind the head of a record of this type: a body, or the image behind LIBXC_CONTEXT
abbrev pub open_content : List LibxlRecord → ℕ → ℕ → List ℕ → Judged (Place × Cause) LibxlContent
open_content records type len input = if type == libxc_context_type then open_inner input else placed (AtRecord (length records)) (open_body type len input)

-- a record behind these records
unfoldable pub open_libxl_record : List LibxlRecord → List ℕ → Judged (Place × Cause) LibxlRecord
open_libxl_record records input = do
  head ← placed (AtRecord (length records)) (libxl_head_at records input)
  content ← open_content records (le32 head.0 0) (le32 head.0 4) head.1
  padding ← placed (AtRecord (length records)) (part Truncated (padding_len (le32 head.0 4)) content.1)
  Passes (record { type = le32 head.0 0; content = content.0 }) padding.1

-- records behind these, up to the one that ends the stream
unfoldable pub open_libxl_records : List LibxlRecord → List ℕ → Judged (Place × Cause) StreamOf
open_libxl_records records input = do
  all ← onward is_libxl_ended open_libxl_record records input
  Passes (Wrapped all.0) all.1

-- a libxl stream behind its ident
unfoldable pub open_wrapped : List ℕ → Judged (Place × Cause) StreamOf
open_wrapped input = do
  header ← placed LibxlHeader (header_at input)
  open_libxl_records [] header.1

abbrev pub open_bare : List ℕ → Judged (Place × Cause) StreamOf
open_bare input = do
  image ← open_image_at input
  Passes (Bare image.0) image.1

-- the first 8 bytes tell the form
unfoldable pub open_stream_at : List ℕ → Judged (Place × Cause) StreamOf
open_stream_at input = if nat_le 8 (length input) && (be64 input 0 == libxl_ident) then open_wrapped (drop 8 input) else open_bare input

-- these bytes are a stream, faultless but for the causes that are left out
abbrev pub IsPassable : List ℕ → StreamOf → Type 0
IsPassable bytes s = open_stream_at bytes ≡ Passes s []

-- the input is refused at this place, for this cause, with those causes left out, and rest follows the faulty part
abbrev pub IsOpenRefused : List ℕ → Place → Cause → List ℕ → Type 0
IsOpenRefused input place cause rest = open_stream_at input ≡ Faulty (place, cause) rest
