-- The form of a libxl stream around its image (libxl migration stream), with the causes that may stand in each part, in
-- the order of their numbers. The refusals of streams of either form, behind a faultless front, follow.
use Rattle.std.specs.Prelude.{◌<◌, ◌≡◌, ◌≤◌, ◌%◌, ◌^◌, ℕ, true, false, Bool, List, [], ◌∷◌, ◌++◌, length, drop, is_some, is_none, ◌==◌, if◌then◌else◌, ◌⊎◌, ◌↔◌, Option, Some}
use Rattle.mig_refusals.specs.Common.{flat_map, padding_len, le32, be32, be64, Spells, Gives, Test, computed, is_ascending, most_body, number_of_cause, Pair, AreRising, text_of_pair, Cause, Place, most_records, ImageOf, Pv, emulators_of, pairs_said, spelled_with, FollowsLibxl, most_pairs, FormOf, ◌>>>◌, bytes_form, said_form, SpelledAs, RefusedAs, code_number}
use Rattle.mig_bytes_form.specs.Tests.Test.{Less, AtMost, Equal, Is, Not, Both, Either}
use Rattle.mig_guest.specs.declared.part_code.PartCode.TheVariants.{EmulatorContext, EmulatorPairs}
use Rattle.mig_headers.specs.Headers.{libxl_ident, IsLibxlHeader}
use Rattle.mig_headers.specs.declared.fault.Cause.TheVariants.{Truncated, BadVersion, BigEndian, BodyTooLong, Unsupported, UnknownMandatory, BadLength, TooManyRecords, BadEmulator, EmulatorForPv, ContextCount, TooManyPairs, EmulatorIndex}
use Rattle.mig_headers.specs.declared.fault.Place.TheVariants as places
use Rattle.mig_policy.specs.PairFaults.{pairs_fault}
use Rattle.mig_policy.specs.PairMaps.{last_pair_value, pairs_in}
use Rattle.mig_refusals.specs.Libxc.{RefusedLibxc}
use Rattle.mig_libxl_form.specs.Content.{LibxlRecord, LibxlContent}
use Rattle.mig_libxl_form.specs.Content.LibxlContent.{Nothing, Pairs, Context}
use Rattle.mig_libxl_form.specs.Among.{is_libxl_ended, has_emulator, image_among}
use Rattle.mig_libxl_form.specs.Judging.{allows_length, emulator_key, is_pv}
use Rattle.mig_libxl_form.specs.LibxlTypes.{checkpoint_end_type, checkpoint_state_type, emulator_context_type, emulator_pairs_type, libxc_context_type, libxl_end_type}

-- ---- conditions and their causes

-- the header behind its ident ("Header")
abbrev pub header_causes : List ℕ → List (Test × Cause)
header_causes bytes = (Not (Equal (be32 bytes 0) 2), BadVersion (be32 bytes 0)) ∷ (Equal (be32 bytes 4 % 2) 1, BigEndian) ∷ []

-- a record head with this type and body length, behind these records ("Records", and the section of each type)
abbrev pub head_causes : List LibxlRecord → ℕ → ℕ → List (Test × Cause)
head_causes records type len =
    (Less most_body len, BodyTooLong len)
    ∷ (Either (Equal type checkpoint_end_type) (Equal type checkpoint_state_type), Unsupported type)
    ∷ (Both (Less checkpoint_state_type type) (Not (AtMost (2 ^ 31) type)), UnknownMandatory type)
    ∷ (Not (Is (allows_length type len)), BadLength len)
    ∷ (AtMost most_records (length records), TooManyRecords)
    ∷ (Both (Equal type libxl_end_type) (Both (Is (is_pv (image_among records))) (Is (has_emulator records))), EmulatorForPv)
    ∷ (Either (Both (Equal type libxc_context_type) (Is (is_some (image_among records)))) (Both (Equal type libxl_end_type) (Is (is_none (image_among records)))), ContextCount)
    ∷ []

-- the pairs of an emulator: what is wrong with their text; the emulator's id, how long its store becomes, and its index
-- ("EMULATOR_XENSTORE_DATA")
abbrev pub pairs_causes : List LibxlRecord → List ℕ → List (Test × Cause)
pairs_causes records body =
    computed (pairs_fault (drop 8 body))
    ++ ((AtMost 3 (le32 body 0), BadEmulator (le32 body 0))
    ∷ (Less most_pairs (spelled_with (emulators_of records) (emulator_key (code_number EmulatorPairs) body) (pairs_in (drop 8 body))), TooManyPairs)
    ∷ (AtMost 256 (le32 body 4), EmulatorIndex (le32 body 4))
    ∷ [])

-- an emulator's context ("EMULATOR_CONTEXT")
abbrev pub context_causes : List ℕ → List (Test × Cause)
context_causes body = (AtMost 3 (le32 body 0), BadEmulator (le32 body 0)) ∷ (AtMost 256 (le32 body 4), EmulatorIndex (le32 body 4)) ∷ []

-- each table is in the order of the causes' numbers
pub record WrapperCausesAscend : Type 0 where
  pub in_header : (bytes : List ℕ) → is_ascending number_of_cause (header_causes bytes) ≡ true
  pub in_head : (records : List LibxlRecord) (type len : ℕ) → is_ascending number_of_cause (head_causes records type len) ≡ true
  pub in_pairs : (records : List LibxlRecord) (body : List ℕ) → is_ascending number_of_cause (pairs_causes records body) ≡ true
  pub in_context : (body : List ℕ) → is_ascending number_of_cause (context_causes body) ≡ true

-- ---- what truth values in conditions say

-- END and LIBXC_CONTEXT have no body, and a body of an emulator has at least its id and its index; the image is that of a PV guest
pub record WrapperTestsSay : Type 0 where
  pub length_is : (type len : ℕ) → (allows_length type len ≡ false) ↔ ((((type ≡ libxl_end_type) ⊎ (type ≡ libxc_context_type)) × (len ≡ 0 → ⊥)) ⊎ (((type ≡ emulator_pairs_type) ⊎ (type ≡ emulator_context_type)) × (len < 8)))
  pub of_pv : (image : Option ImageOf) → (is_pv image ≡ true) ↔ ((i : ImageOf) × (image ≡ Some i) × (i.opening.kind ≡ Pv))

-- ---- how long a store becomes, in words

-- what all these pairs come to: their keys in ascending order, each once, with the value of the last pair that has it
pub record AreMerged (all pairs : List Pair) : Type 0 where
  pub rising : AreRising pairs
  pub values : (k : List ℕ) → last_pair_value k pairs ≡ last_pair_value k all

-- all pairs for the emulator that a body names: those that these records say, and those of the body behind them
abbrev pub pairs_with : List LibxlRecord → List ℕ → List Pair
pairs_with records body = pairs_said (emulator_key (code_number EmulatorPairs) body) records ++ pairs_in (drop 8 body)

-- a store becomes as long as what all pairs come to
pub record StoresAreMerged : Type 0 where
  pub length_is : (records : List LibxlRecord) (body : List ℕ) (pairs : List Pair) → AreMerged (pairs_with records body) pairs → length (flat_map text_of_pair pairs) ≡ spelled_with (emulators_of records) (emulator_key (code_number EmulatorPairs) body) (pairs_in (drop 8 body))
  pub some : (records : List LibxlRecord) (body : List ℕ) → (pairs : List Pair) × AreMerged (pairs_with records body) pairs

-- ---- the forms

abbrev pub header_form : FormOf Cause (List ℕ)
header_form = bytes_form Truncated 8 header_causes

abbrev pub record_head_form : List LibxlRecord → FormOf Cause (List ℕ)
record_head_form records = bytes_form Truncated 8 (λ head. head_causes records (le32 head 0) (le32 head 4))

-- the body of a record of this type, which isn't LIBXC_CONTEXT
abbrev pub record_body_form : List LibxlRecord → ℕ → ℕ → FormOf Cause LibxlContent
record_body_form records type len =
    if type == emulator_pairs_type then said_form Truncated len (pairs_causes records) (λ body. Pairs (emulator_key (code_number EmulatorPairs) body) (pairs_in (drop 8 body)))
    else if type == emulator_context_type then said_form Truncated len context_causes (λ body. Context (emulator_key (code_number EmulatorContext) body) (drop 8 body))
    else said_form Truncated len (λ _. []) (λ _. Nothing)

-- what is behind a head: a body and its padding; behind LIBXC_CONTEXT the image, which is no part of this form
abbrev pub behind_record_head : List LibxlRecord → List ℕ → FormOf Cause LibxlRecord
behind_record_head records head =
    if le32 head 0 == libxc_context_type then Gives (record { type = le32 head 0; content = Nothing })
    else (record_body_form records (le32 head 0) (le32 head 4) >>> λ content. bytes_form Truncated (padding_len (le32 head 4)) (λ _. []) >>> λ _. Gives (record { type = le32 head 0; content = content }))

-- a record behind these records
abbrev pub record_form : List LibxlRecord → FormOf Cause LibxlRecord
record_form records = record_head_form records >>> λ head. behind_record_head records head

-- ---- refusals, behind faultless fronts

-- the header, and behind it these records, none of them END
pub record IsOpenWrapper (front : List ℕ) (records : List LibxlRecord) : Type 0 where
  pub header : List ℕ
  pub legacy : Bool
  pub bytes : List ℕ
  pub whole : front ≡ header ++ bytes
  pub is_header : IsLibxlHeader header legacy
  pub spelled : Spells FollowsLibxl bytes records
  pub not_ended : is_libxl_ended records ≡ false

-- an input of 8 bytes and more that begins as a libxl stream
pub record BeginsAsLibxl (input : List ℕ) : Type 0 where
  pub long : 8 ≤ length input
  pub ident : be64 input 0 ≡ libxl_ident

-- The input is refused at this place, for this cause, and rest follows the faulty part. It is an image that is no libxl
-- stream; or a libxl stream, refused in its header, in a record behind others, or in the image behind the head of
-- LIBXC_CONTEXT.
pub data RefusedStreamAt (input : List ℕ) (cause : Cause) (rest : List ℕ) : Place → Type 0 where
  bare : (place : Place) → (BeginsAsLibxl input → ⊥) → RefusedLibxc input place cause rest → RefusedStreamAt input cause rest place
  in_header : (ident left : List ℕ) → input ≡ ident ++ left → length ident ≡ 8 → be64 ident 0 ≡ libxl_ident → RefusedAs header_form left cause rest → RefusedStreamAt input cause rest places.LibxlHeader
  in_record : (front left : List ℕ) (records : List LibxlRecord) → input ≡ front ++ left → IsOpenWrapper front records → RefusedAs (record_form records) left cause rest → RefusedStreamAt input cause rest (places.LibxlRecord (length records))
  in_image : (place : Place) (front head left : List ℕ) (records : List LibxlRecord) → input ≡ front ++ (head ++ left) → IsOpenWrapper front records → SpelledAs (record_head_form records) head head → le32 head 0 ≡ 1 → RefusedLibxc left place cause rest
      → RefusedStreamAt input cause rest place

abbrev pub RefusedStream : List ℕ → Place → Cause → List ℕ → Type 0
RefusedStream input place cause rest = RefusedStreamAt input cause rest place
