-- Judging a record of a libxl stream: its parts in their order, and the causes that are tried in each, in the order of
-- their numbers.
use Rattle.std.specs.Prelude.{ℕ, Bool, true, false, List, [], ◌∷◌, length, drop, Option, Some, None, is_some, is_none, ◌==◌, ◌&&◌, ◌||◌, not, nat_le, nat_lt, if◌then◌else◌}
use Rattle.mig_libxl_form.specs.Common.{option_or, code_number, EmulatorContext, EmulatorPairs, padding_len, le32, Passes, is_optional, most_body, Kind, Pv, Hvm, Cause, Truncated, BodyTooLong, Unsupported, UnknownMandatory, BadLength, TooManyRecords, EmulatorForPv, ContextCount, BadEmulator, TooManyPairs, EmulatorIndex, Place, PartKey, most_pairs, pairs_fault, pairs_in, most_records, ImageOf, image_at}
use Rattle.mig_bytes.specs.Judged.{Judged, ◌>>=◌, part, placed, said_at, plain_at}
use Rattle.mig_headers.specs.Rows.{first_fault}
use Rattle.mig_headers.specs.declared.fault.Place.TheVariants.{LibxlRecord as AtRecord}
use Rattle.mig_libxl_form.specs.LibxlTypes.{libxl_end_type, libxc_context_type, emulator_pairs_type, emulator_context_type, checkpoint_end_type, checkpoint_state_type, is_emulator_type}
use Rattle.mig_libxl_form.specs.Content.{LibxlRecord, LibxlContent}
use Rattle.mig_libxl_form.specs.Among.{has_emulator, image_among}
use Rattle.mig_libxl_form.specs.Content.LibxlContent.{Nothing, Image, Pairs, Context}
use Rattle.mig_libxl_form.specs.Emulators.{EmulatorsOf, emulators_of, spelled_with}

-- ---- the head

-- CHECKPOINT_END and CHECKPOINT_STATE
abbrev pub is_unsupported : ℕ → Bool
is_unsupported type = (type == checkpoint_end_type) || (type == checkpoint_state_type)

-- END and LIBXC_CONTEXT have no body, and a body of an emulator begins with its id and its index
abbrev pub allows_length : ℕ → ℕ → Bool
allows_length type len = if (type == libxl_end_type) || (type == libxc_context_type) then len == 0 else if is_emulator_type type then nat_le 8 len else true

abbrev pub is_pv_kind : Kind → Bool
is_pv_kind Pv = true
is_pv_kind Hvm = false

-- the image is that of a PV guest
abbrev pub is_pv : Option ImageOf → Bool
is_pv None = false
is_pv (Some image) = is_pv_kind image.opening.kind

-- a second image, or the end of a stream without one
abbrev pub is_miscounted : ℕ → Option ImageOf → Bool
is_miscounted type image = ((type == libxc_context_type) && is_some image) || ((type == libxl_end_type) && is_none image)

-- the causes of a head of this type and length, whatever is before it
abbrev pub field_rows : ℕ → ℕ → List (Bool × Cause)
field_rows type len =
    (nat_lt most_body len, BodyTooLong len)
    ∷ (is_unsupported type, Unsupported type)
    ∷ (nat_lt checkpoint_state_type type && not (is_optional type), UnknownMandatory type)
    ∷ (not (allows_length type len), BadLength len)
    ∷ []

-- and behind these records
abbrev pub order_rows : List LibxlRecord → ℕ → List (Bool × Cause)
order_rows records type =
    (nat_le most_records (length records), TooManyRecords)
    ∷ ((type == libxl_end_type) && (is_pv (image_among records) && has_emulator records), EmulatorForPv)
    ∷ (is_miscounted type (image_among records), ContextCount)
    ∷ []

unfoldable pub fault_of_libxl_fields : ℕ → ℕ → Option Cause
fault_of_libxl_fields type len = first_fault (field_rows type len)

unfoldable pub fault_of_order : List LibxlRecord → ℕ → Option Cause
fault_of_order records type = first_fault (order_rows records type)

abbrev pub fault_of_libxl_head : List LibxlRecord → ℕ → ℕ → Option Cause
fault_of_libxl_head records type len = option_or (fault_of_libxl_fields type len) (fault_of_order records type)

abbrev pub libxl_head_at : List LibxlRecord → List ℕ → Judged Cause (List ℕ)
libxl_head_at records input = said_at Truncated (λ head. fault_of_libxl_head records (le32 head 0) (le32 head 4)) (λ head. head) 8 input

-- ---- the bodies of emulators

-- the key of the part of this code that a body names, by the emulator's id and its index
abbrev pub emulator_key : ℕ → List ℕ → PartKey
emulator_key code body = record { code = code; key1 = le32 body 0; key2 = le32 body 4 }

unfoldable pub fault_of_pairs : EmulatorsOf → List ℕ → Option Cause
fault_of_pairs e body =
    option_or (pairs_fault (drop 8 body))
    (first_fault (
    (nat_le 3 (le32 body 0), BadEmulator (le32 body 0))
    ∷ (nat_lt most_pairs (spelled_with e (emulator_key (code_number EmulatorPairs) body) (pairs_in (drop 8 body))), TooManyPairs)
    ∷ (nat_le 256 (le32 body 4), EmulatorIndex (le32 body 4))
    ∷ []))

unfoldable pub fault_of_context : List ℕ → Option Cause
fault_of_context body = first_fault ((nat_le 3 (le32 body 0), BadEmulator (le32 body 0)) ∷ (nat_le 256 (le32 body 4), EmulatorIndex (le32 body 4)) ∷ [])

abbrev pub pairs_at : EmulatorsOf → ℕ → List ℕ → Judged Cause LibxlContent
pairs_at e len input = said_at Truncated (fault_of_pairs e) (λ body. Pairs (emulator_key (code_number EmulatorPairs) body) (pairs_in (drop 8 body))) len input

abbrev pub context_at : ℕ → List ℕ → Judged Cause LibxlContent
context_at len input = said_at Truncated fault_of_context (λ body. Context (emulator_key (code_number EmulatorContext) body) (drop 8 body)) len input

-- a body that isn't kept
abbrev pub skipped_at : ℕ → List ℕ → Judged Cause LibxlContent
skipped_at len input = plain_at Truncated (λ _. Nothing) len input

-- ---- a record

-- the image behind LIBXC_CONTEXT, whose parts have places of their own
abbrev pub inner_at : List ℕ → Judged (Place × Cause) LibxlContent
inner_at input = do
  image ← image_at input
  Passes (Image image.0) image.1

-- the body of a record of this type, behind these emulators
abbrev pub body_of_type : EmulatorsOf → ℕ → ℕ → List ℕ → Judged Cause LibxlContent
body_of_type e type len input = if type == emulator_pairs_type then pairs_at e len input else if type == emulator_context_type then context_at len input else skipped_at len input

-- what is behind the head of a record of this type: a body, or the image behind LIBXC_CONTEXT
abbrev pub libxl_content_at : List LibxlRecord → ℕ → ℕ → List ℕ → Judged (Place × Cause) LibxlContent
libxl_content_at records type len input = if type == libxc_context_type then inner_at input else placed (AtRecord (length records)) (body_of_type (emulators_of records) type len input)

-- a record behind these records
unfoldable pub libxl_record_at : List LibxlRecord → List ℕ → Judged (Place × Cause) LibxlRecord
libxl_record_at records input = do
  head ← placed (AtRecord (length records)) (libxl_head_at records input)
  content ← libxl_content_at records (le32 head.0 0) (le32 head.0 4) head.1
  padding ← placed (AtRecord (length records)) (part Truncated (padding_len (le32 head.0 4)) content.1)
  Passes (record { type = le32 head.0 0; content = content.0 }) padding.1
