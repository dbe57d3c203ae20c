-- What is whole in front of a place of a stream (libxc migration stream, "Headers" and "Records"; libxl migration stream,
-- "Header" and "Records").
use Rattle.std.specs.Prelude.{◌≡◌, ◌≢◌, ◌+◌, ◌*◌, ℕ, Bool, true, false, List, [], ◌∷◌, ◌++◌, length, count_by, Option, Some, None, if◌then◌else◌}
use Rattle.mig_bytes.specs.Fields.{le32, be32}
use Rattle.mig_headers.specs.Headers.{kind_of_number}
use Rattle.mig_show.specs.Common.{End, Place, type_number, word_has_data, Kind}
use Rattle.mig_headers.specs.declared.fault.Place.TheVariants.{ImageHeader, DomainHeader, LibxlHeader, LibxlRecord, Record}
use Rattle.mig_libxl_form.specs.LibxlTypes.{libxc_context_type, libxl_end_type}
use Rattle.mig_records.specs.Records.{IsRecord}
use Rattle.mig_records.specs.Words.{words}
use Rattle.mig_show.specs.Tree.{is_page_data}
use Rattle.mig_show.specs.declared.record.Seen1.{Seen1}

-- ---- a record

-- the body of a PAGE_DATA with so many words, of which so many have data: 8 bytes, the first 4 with the number of the words;
-- the words; and their pages
pub record HasWords (body : List ℕ) (number pages : ℕ) : Type 0 where
  pub front : List ℕ
  pub spelled : List ℕ
  pub rest : List ℕ
  pub whole : body ≡ front ++ (spelled ++ rest)
  pub front_len : length front ≡ 8
  pub number_is : number ≡ le32 front 0
  pub spelled_len : length spelled ≡ 8 * number
  pub pages_is : pages ≡ count_by word_has_data (words number spelled)

-- What is shown of a record of a libxl stream, or of an image, that is whole as these bytes: its head, its body and its
-- padding. Of a PAGE_DATA it is also how many words it has, and how many of them have data. Words and their pages fill
-- its body.
pub record StandsWhole (wrapped : Bool) (text : List ℕ) (shown : Seen1) : Type 0 where
  pub layer : shown.wrapped ≡ wrapped
  pub body : List ℕ
  pub is : IsRecord shown.kind body text
  pub len : shown.len ≡ length body
  pub counted : is_page_data shown ≡ true → HasWords body shown.words shown.pages
  pub filled : is_page_data shown ≡ true → shown.len ≡ 8 + 8 * shown.words + 4096 * shown.pages
  pub plain : is_page_data shown ≡ false → (shown.words ≡ 0) × (shown.pages ≡ 0)

-- ---- the front of a stream

-- what is shown of a front: whether it is of a libxl stream, the version and the kind as far as its headers tell them, and
-- its records
pub record ShownFront : Type 0 where
  pub wrapper : Bool
  pub version : Option ℕ
  pub kind : Option Kind
  pub records : List Seen1

-- nothing but the form
abbrev pub of_form : Bool → ShownFront
of_form wrapper = record { wrapper = wrapper; version = None; kind = None; records = [] }

abbrev pub with_shown : ShownFront → Seen1 → ShownFront
with_shown front shown = record front { records = front.records ++ shown ∷ [] }

-- how many records of the libxl stream there are
abbrev pub libxl_number : ShownFront → ℕ
libxl_number front = count_by (λ shown. shown.wrapped) front.records

-- the place behind an image that is whole: the next record of the libxl stream around it, or none
abbrev pub behind_image : ShownFront → Option Place
behind_image front = if front.wrapper then Some (LibxlRecord (libxl_number front)) else None

-- These bytes are in front of this place, or are a whole stream where no place follows; and so much is shown of them. An
-- image has an image header, a domain header, and its records up to END. A libxl stream has a header, and its records up to
-- END; the image follows its LIBXC_CONTEXT, in front of which there was none.
pub data StandsBefore : List ℕ → ShownFront → Option Place → Type 0 where
  image_first : StandsBefore [] (of_form false) (Some ImageHeader)
  header_first : StandsBefore [] (of_form true) (Some LibxlHeader)
  libxl_header : (bytes text : List ℕ) (front : ShownFront) → StandsBefore bytes front (Some LibxlHeader) → length text ≡ 16 → StandsBefore (bytes ++ text) front (Some (LibxlRecord 0))
  libxl_record : (bytes text : List ℕ) (front : ShownFront) (shown : Seen1) (n : ℕ) → StandsBefore bytes front (Some (LibxlRecord n))
      → StandsWhole true text shown → shown.kind ≢ libxl_end_type → shown.kind ≢ libxc_context_type → StandsBefore (bytes ++ text) (with_shown front shown) (Some (LibxlRecord (n + 1)))
  libxl_context : (bytes text : List ℕ) (front : ShownFront) (shown : Seen1) (n : ℕ) → StandsBefore bytes front (Some (LibxlRecord n))
      → StandsWhole true text shown → shown.kind ≡ libxc_context_type → front.version ≡ None → StandsBefore (bytes ++ text) (with_shown front shown) (Some ImageHeader)
  libxl_end : (bytes text : List ℕ) (front : ShownFront) (shown : Seen1) (n : ℕ) → StandsBefore bytes front (Some (LibxlRecord n))
      → StandsWhole true text shown → shown.kind ≡ libxl_end_type → StandsBefore (bytes ++ text) (with_shown front shown) None
  image_header : (bytes text : List ℕ) (front : ShownFront) → StandsBefore bytes front (Some ImageHeader)
      → length text ≡ 24 → StandsBefore (bytes ++ text) (record front { version = Some (be32 text 12) }) (Some DomainHeader)
  domain_header : (bytes text : List ℕ) (front : ShownFront) → StandsBefore bytes front (Some DomainHeader)
      → length text ≡ 16 → StandsBefore (bytes ++ text) (record front { kind = Some (kind_of_number (le32 text 0)) }) (Some (Record 0))
  image_record : (bytes text : List ℕ) (front : ShownFront) (shown : Seen1) (n : ℕ) → StandsBefore bytes front (Some (Record n))
      → StandsWhole false text shown → shown.kind ≢ type_number End → StandsBefore (bytes ++ text) (with_shown front shown) (Some (Record (n + 1)))
  image_end : (bytes text : List ℕ) (front : ShownFront) (shown : Seen1) (n : ℕ) → StandsBefore bytes front (Some (Record n))
      → StandsWhole false text shown → shown.kind ≡ type_number End → StandsBefore (bytes ++ text) (with_shown front shown) (behind_image front)
