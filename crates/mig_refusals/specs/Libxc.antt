-- The form of an image (libxc migration stream), a stream of its own or a part of a libxl stream. Which causes stand in
-- each of its parts is said in the words of the format, and so are its refusals, behind a faultless front.
use Rattle.std.specs.Prelude.{◌≡◌, ◌↔◌, ◌⊎◌, ℕ, ◌+◌, ◌*◌, ◌^◌, ◌%◌, ◌<◌, ◌≤◌, List, [], ◌∷◌, ◌++◌, length, Option, Some, None, IsTrue, IsFalse, false, count_by, slice_index, if◌then◌else◌}
use Rattle.std.specs.FinMap as maps
use Rattle.mig_refusals.specs.Common.{padding_len, Spells, Gives, computed, le16, le32, le64, be16, be32, be64, is_optional, record_row_of, type_number, type_of_number, most_body, number_of_cause, Cause, ContextFault, Place, Kind, Pv, Hvm, most_frames, level_of, GuestOf, context_key, PartCode, VcpuBasic, VcpuExtended, VcpuXsave, HvmContext, HvmParam, VcpuMsrs, fault_of_pv_info, fault_of_p2m, Opening, Before, before, code_of_type, fault_at_end, fault_of_data, fault_of_head, fault_of_page, lists_of, most_records, type_in_word, with_places, sent, type_in_guest, Follows}
use Rattle.mig_bytes_form.specs.Form.{FormOf, ◌>>>◌, asked_form, bytes_form, each_form, said_form, BeginsAs, RefusedAs}
use Rattle.mig_headers.specs.Headers.{marker as all_ones, image_id, page_shift, fault_of_domain, fault_of_image, fault_of_marker, kind_of_number, IsImageHeader, IsDomainHeader}
use Rattle.mig_headers.specs.declared.fault.Cause.TheVariants.{Truncated, NotStream, BadId, BadVersion, BigEndian, BadKind, BadPageShift, BodyTooLong, Unsupported, UnknownMandatory, WrongKind, OutOfOrder, BadLength, NoPages, BadPageType, PfnOutside, BadContext, ParamIndex, Missing, TooManyRecords, TooManyFrames}
use Rattle.mig_headers.specs.declared.fault.ContextFault.TheVariants.{NoHeader, HeaderSize, ShortEntry, NoEnd}
use Rattle.mig_headers.specs.declared.fault.Place.TheVariants as places
use Rattle.mig_headers.specs.declared.record_type.RecordType.{RecordType}
use Rattle.mig_headers.specs.declared.record_type.RecordType.TheVariants.{PageData, Verify, X86PvInfo, X86PvP2mFrames, StaticDataEnd}
use Rattle.mig_pagetypes.specs.FrameWords.{word_type, word_pfn, word_has_data}
use Rattle.mig_records.specs.Shapes.{fault_of_body, parts_of_body}
use Rattle.mig_records.specs.Faults.{fault_of_count, fault_of_words}
use Rattle.mig_records.specs.Words.{words}
use Rattle.mig_order.specs.Order.{some_earlier, is_of, static_records, content_records, vcpu_records}
use Rattle.mig_restore_form.specs.Record.{FrameEntry, StreamRecord, Content, is_ended, is_verified, placed_content}
use Rattle.mig_restore_form.specs.Record.Content.{Nothing, Frames, Sets}
use Rattle.mig_refusals.specs.LibxcPv.{TableHas, InfoHas, P2mHas, VcpuHas, PvGuestHas}

-- ---- where each cause stands, a line for each; causes that have places stand at several, all others at place 0

-- the marker ("Image Header")
pub data MarkerHas (bytes : List ℕ) : ℕ → Cause → Type 0 where
  not_stream : (be64 bytes 0 ≡ all_ones → ⊥) → MarkerHas bytes 0 NotStream

-- the rest of the image header ("Image Header")
pub data HeaderHas (bytes : List ℕ) : ℕ → Cause → Type 0 where
  big_endian : be16 bytes 8 % 2 ≡ 1 → HeaderHas bytes 0 BigEndian
  bad_version : (be32 bytes 4 ≡ 2 → ⊥) → (be32 bytes 4 ≡ 3 → ⊥) → HeaderHas bytes 0 (BadVersion (be32 bytes 4))
  bad_id : (be32 bytes 0 ≡ image_id → ⊥) → HeaderHas bytes 0 BadId

-- the domain header ("Domain Header")
pub data DomainHas (bytes : List ℕ) : ℕ → Cause → Type 0 where
  bad_page_shift : (le16 bytes 4 ≡ page_shift → ⊥) → DomainHas bytes 0 (BadPageShift (le16 bytes 4))
  bad_kind : (le32 bytes 0 ≡ 1 → ⊥) → (le32 bytes 0 ≡ 2 → ⊥) → DomainHas bytes 0 (BadKind (le32 bytes 0))

-- the order rules, by their numbers, that a record of a type breaks behind records of these types ("Layout")
pub data Breaks (version : ℕ) (kind : Kind) (types : List ℕ) : RecordType → ℕ → Type 0 where
  second_end : IsTrue (some_earlier types (StaticDataEnd ∷ [])) → Breaks version kind types StaticDataEnd 1
  static_after_end : (this : RecordType) → IsTrue (is_of static_records this) → IsTrue (some_earlier types (StaticDataEnd ∷ [])) → Breaks version kind types this 2
  static_after_content : (this : RecordType) → IsTrue (is_of (StaticDataEnd ∷ static_records) this) → IsTrue (some_earlier types content_records) → Breaks version kind types this 2
  early_content : (this : RecordType) → version ≡ 3 → IsTrue (is_of content_records this) → IsFalse (some_earlier types (StaticDataEnd ∷ [])) → Breaks version kind types this 3
  second_pv_info : IsTrue (some_earlier types (X86PvInfo ∷ [])) → Breaks version kind types X86PvInfo 4
  early_p2m_frames : IsFalse (some_earlier types (X86PvInfo ∷ [])) → Breaks version kind types X86PvP2mFrames 5
  early_pages : kind ≡ Pv → IsFalse (some_earlier types (X86PvP2mFrames ∷ [])) → Breaks version kind types PageData 6
  late_pages : IsTrue (some_earlier types vcpu_records) → Breaks version kind types PageData 7
  second_verify : IsTrue (some_earlier types (Verify ∷ [])) → Breaks version kind types Verify 8
  late_verify : IsTrue (some_earlier types vcpu_records) → Breaks version kind types Verify 8

-- a record head with this type and body length ("Records", and the section of each type); an order rule is the place of its cause
pub data HeadHas (b : Before) (type len : ℕ) : ℕ → Cause → Type 0 where
  too_many : most_records ≤ length b.types → HeadHas b type len 0 TooManyRecords
  bad_length : (this : RecordType) → type ≡ type_number this → IsFalse ((record_row_of this).allows len) → HeadHas b type len 0 (BadLength len)
  out_of_order : (this : RecordType) (rule : ℕ) → type ≡ type_number this → Breaks b.opening.version b.opening.kind b.types this rule → HeadHas b type len rule (OutOfOrder rule)
  wrong_kind : (this : RecordType) → type ≡ type_number this → IsFalse ((record_row_of this).of_kind b.opening.kind) → HeadHas b type len 0 (WrongKind type)
  unknown : type < 2 ^ 31 → type_of_number type ≡ None → HeadHas b type len 0 (UnknownMandatory type)
  unsupported : (this : RecordType) → type ≡ type_number this → IsFalse (record_row_of this).supported → HeadHas b type len 0 (Unsupported type)
  too_long : most_body < len → HeadHas b type len 0 (BodyTooLong len)

-- the first 8 bytes of a body of this length, with this count ("PAGE_DATA")
pub data FrontHas (len count : ℕ) : ℕ → Cause → Type 0 where
  no_pages : count ≡ 0 → FrontHas len count 0 NoPages
  bad_length : len < 8 + 8 * count → FrontHas len count 0 (BadLength len)

-- the words: at the word of this place ("PAGE_DATA")
pub data WordsHas (kind : Kind) (top : ℕ) (ws : List ℕ) : ℕ → Cause → Type 0 where
  outside : (place : ℕ) → place < length ws → kind ≡ Pv → top < word_pfn (slice_index ws place) → WordsHas kind top ws place (PfnOutside place (word_pfn (slice_index ws place)))
  reserved : (place : ℕ) → place < length ws → 5 ≤ word_type (slice_index ws place) → word_type (slice_index ws place) ≤ 8 → WordsHas kind top ws place (BadPageType place (word_type (slice_index ws place)))

-- the length of a body with these words ("PAGE_DATA")
pub data LengthHas (len : ℕ) (ws : List ℕ) : ℕ → Cause → Type 0 where
  bad_length : (len ≡ 8 + 8 * length ws + 4096 * count_by word_has_data ws → ⊥) → LengthHas len ws 0 (BadLength len)

-- the page of a word at this place, where the type that the word means in a stream of this kind is a table of a level; an HVM stream has no tables ("PAGE_DATA")
pub data PageHas (kind : Kind) (top place word : ℕ) (page : List ℕ) : ℕ → Cause → Type 0 where
  in_table : (level slot : ℕ) (cause : Cause) → level_of (type_in_guest kind (type_in_word word)) ≡ Some level → TableHas top place level page slot cause → PageHas kind top place word page slot cause

-- the entries of an HVM context stand whole up to the one at this offset: the first is a header with 24 bytes, and none of them ends the chain (Xen public/arch-x86/hvm/save.h)
pub data EntriesTo (bytes : List ℕ) : ℕ → Type 0 where
  start : EntriesTo bytes 0
  next : (o : ℕ) → EntriesTo bytes o → (o ≡ 0 → (le16 bytes 0 ≡ 1) × (le32 bytes 4 ≡ 24)) → (le16 bytes o ≡ 0 → ⊥) → o + 8 + le32 bytes (o + 4) ≤ length bytes → EntriesTo bytes (o + 8 + le32 bytes (o + 4))

-- what is wrong with the entry at this offset; no two of these lines hold together
pub data EntryHas (bytes : List ℕ) (o : ℕ) : ContextFault → Type 0 where
  nothing_at_all : o ≡ 0 → length bytes ≤ o → EntryHas bytes o NoHeader
  nothing_more : 0 < o → length bytes ≤ o → EntryHas bytes o NoEnd
  short_front : o < length bytes → length bytes < o + 8 → EntryHas bytes o (ShortEntry o)
  other_first : o ≡ 0 → o + 8 ≤ length bytes → (le16 bytes 0 ≡ 1 → ⊥) → EntryHas bytes o NoHeader
  header_size : o ≡ 0 → o + 8 ≤ length bytes → le16 bytes 0 ≡ 1 → (le32 bytes 4 ≡ 24 → ⊥) → EntryHas bytes o (HeaderSize (le32 bytes 4))
  short_data : (o ≡ 0 → (le16 bytes 0 ≡ 1) × (le32 bytes 4 ≡ 24)) → o + 8 ≤ length bytes → (le16 bytes o ≡ 0 → ⊥) → length bytes < o + 8 + le32 bytes (o + 4) → EntryHas bytes o (ShortEntry o)

-- a body that is an HVM context ("HVM_CONTEXT")
pub data ContextHas (body : List ℕ) : ℕ → Cause → Type 0 where
  bad_context : (o : ℕ) (fault : ContextFault) → EntriesTo body o → EntryHas body o fault → ContextHas body 0 (BadContext fault)

-- a body of HVM parameters: at the pair of this place ("HVM_PARAMS")
pub data ParamsHas (body : List ℕ) : ℕ → Cause → Type 0 where
  param_index : (place : ℕ) → place < le32 body 0 → 4096 ≤ le64 body (8 + 16 * place) → ParamsHas body place (ParamIndex (le64 body (8 + 16 * place)))
  bad_length : (length body ≡ 8 + 16 * le32 body 0 → ⊥) → ParamsHas body 0 (BadLength (length body))

-- the whole guest at END, by its kind ("END")
pub data GuestHas (g : GuestOf) : ℕ → Cause → Type 0 where
  too_many_frames : g.kind ≡ Hvm → most_frames < length (maps.entries g.frames) → GuestHas g 0 TooManyFrames
  missing : g.kind ≡ Hvm → maps.get g.parts context_key ≡ None → GuestHas g 0 (Missing 9)
  of_pv : (place : ℕ) (cause : Cause) → g.kind ≡ Pv → PvGuestHas g place cause → GuestHas g place cause

-- a body that sets parts of this code: a vCPU's parts, a context and parameters have causes of their own
abbrev pub BodyHas : PartCode → List ℕ → ℕ → Cause → Type 0
BodyHas VcpuBasic body place cause = VcpuHas VcpuBasic body place cause
BodyHas VcpuExtended body place cause = VcpuHas VcpuExtended body place cause
BodyHas VcpuXsave body place cause = VcpuHas VcpuXsave body place cause
BodyHas VcpuMsrs body place cause = VcpuHas VcpuMsrs body place cause
BodyHas HvmContext body place cause = ContextHas body place cause
BodyHas HvmParam body place cause = ParamsHas body place cause
BodyHas code body place cause = ⊥

-- causes are tried in the order of their numbers, and one cause in the order of its places
abbrev pub IsTriedBefore : ℕ → Cause → ℕ → Cause → Type 0
IsTriedBefore place cause other_place other = (number_of_cause cause < number_of_cause other) ⊎ ((number_of_cause cause ≡ number_of_cause other) × (place < other_place))

-- the cause stands, and every other that stands is tried later
abbrev pub IsFirstCause : (ℕ → Cause → Type 0) → Cause → Type 0
IsFirstCause Has cause = (place : ℕ) × Has place cause × ((other_place : ℕ) (other : Cause) → Has other_place other → IsTriedBefore place cause other_place other ⊎ (other ≡ cause))

-- the answer is the cause that is tried first of those that stand, and there is none exactly where none stands
pub record AnswersFirstCause (Has : ℕ → Cause → Type 0) (answer : Option Cause) : Type 0 where
  pub first : (cause : Cause) → (answer ≡ Some cause) ↔ IsFirstCause Has cause
  pub none : (answer ≡ None) ↔ ((place : ℕ) (cause : Cause) → Has place cause → ⊥)

-- what is computed of each part is the cause that is tried first of those that stand in it; of a body with parts where its
-- length is one that its record may have
pub record LibxcCausesStand : Type 0 where
  pub marker : (bytes : List ℕ) → AnswersFirstCause (MarkerHas bytes) (fault_of_marker bytes)
  pub header : (bytes : List ℕ) → AnswersFirstCause (HeaderHas bytes) (fault_of_image bytes)
  pub domain : (bytes : List ℕ) → AnswersFirstCause (DomainHas bytes) (fault_of_domain bytes)
  pub head : (b : Before) (head : List ℕ) → AnswersFirstCause (HeadHas b (le32 head 0) (le32 head 4)) (fault_of_head b head)
  pub front : (len count : ℕ) → AnswersFirstCause (FrontHas len count) (fault_of_count len count)
  pub page_words : (kind : Kind) (top : ℕ) (ws : List ℕ) → AnswersFirstCause (WordsHas kind top ws) (fault_of_words kind top ws)
  pub data_length : (len : ℕ) (ws : List ℕ) → AnswersFirstCause (LengthHas len ws) (fault_of_data len ws)
  pub info : (body : List ℕ) → AnswersFirstCause (InfoHas body) (fault_of_pv_info body)
  pub p2m : (body : List ℕ) → AnswersFirstCause (P2mHas body) (fault_of_p2m body)
  pub body : (this : RecordType) (code : PartCode) (body : List ℕ) → code_of_type this ≡ Some code → (this ≡ X86PvP2mFrames → ⊥) → IsTrue ((record_row_of this).allows (length body)) → AnswersFirstCause (BodyHas code body) (fault_of_body code body)

-- ---- the form

abbrev pub marker_form : FormOf Cause (List ℕ)
marker_form = bytes_form Truncated 8 (λ bytes. computed (fault_of_marker bytes))

-- the rest of the image header, which tells the version; and the domain header, which tells the kind
abbrev pub version_form : FormOf Cause ℕ
version_form = said_form Truncated 16 (λ bytes. computed (fault_of_image bytes)) (λ bytes. be32 bytes 4)

abbrev pub kind_form : FormOf Cause Kind
kind_form = said_form Truncated 16 (λ bytes. computed (fault_of_domain bytes)) (λ bytes. kind_of_number (le32 bytes 0))

-- the page of a word at its place, where the type has data; and the entry that they say
abbrev pub image_page_form : Kind → ℕ → ℕ × ℕ → FormOf Cause (Option (List ℕ))
image_page_form kind top at = if word_has_data at.1 then said_form Truncated 4096 (λ page. computed (fault_of_page kind top at page)) Some else Gives None

abbrev pub image_entry_form : Kind → ℕ → ℕ × ℕ → FormOf Cause FrameEntry
image_entry_form kind top at = image_page_form kind top at >>> λ page. Gives (record { pfn = word_pfn at.1; type = type_in_word at.1; page = page })

-- a PAGE_DATA body: its count, so many words, its length, and the pages
abbrev pub pages_form : Kind → ℕ → ℕ → FormOf Cause Content
pages_form kind top len =
    bytes_form Truncated 8 (λ front. computed (fault_of_count len (le32 front 0))) >>> λ front.
    said_form Truncated (8 * le32 front 0) (λ bytes. computed (fault_of_words kind top (words (le32 front 0) bytes))) (words (le32 front 0)) >>> λ ws.
    asked_form Truncated (computed (fault_of_data len ws)) ws >>> λ ws. each_form (image_entry_form kind top) (with_places 0 ws) >>> λ entries. Gives (Frames entries)

-- a body with parts of this code; a record that only marks a place has none
abbrev pub coded_form : Option PartCode → ℕ → FormOf Cause Content
coded_form None len = Gives Nothing
coded_form (Some code) len = said_form Truncated len (λ body. computed (fault_of_body code body)) (λ body. Sets code (parts_of_body code body))

abbrev pub typed_form : Kind → ℕ → Option RecordType → ℕ → FormOf Cause Content
typed_form kind top None len = Gives Nothing
typed_form kind top (Some PageData) len = pages_form kind top len
typed_form kind top (Some X86PvInfo) len = said_form Truncated len (λ body. computed (fault_of_pv_info body)) (λ _. Nothing)
typed_form kind top (Some X86PvP2mFrames) len = said_form Truncated len (λ body. computed (fault_of_p2m body)) lists_of
typed_form kind top (Some this) len = coded_form (code_of_type this) len

-- an optional record says nothing, whatever its body
abbrev pub image_body_form : Kind → ℕ → ℕ → ℕ → FormOf Cause Content
image_body_form kind top type len = if is_optional type then said_form Truncated len (λ _. []) (λ _. Nothing) else typed_form kind top (type_of_number type) len

-- a record behind others: its head, its body, its padding; and behind END the whole guest, which has no bytes of its own
abbrev pub image_record_form : Before → FormOf Cause StreamRecord
image_record_form b =
    bytes_form Truncated 8 (λ head. computed (fault_of_head b head)) >>> λ head. image_body_form b.opening.kind b.top (le32 head 0) (le32 head 4) >>> λ content.
    bytes_form Truncated (padding_len (le32 head 4)) (λ _. []) >>> λ _. Gives (record { type = le32 head 0; content = placed_content (is_verified b.types) content })

abbrev pub next_form : Opening → List StreamRecord → FormOf Cause StreamRecord
next_form o records = image_record_form (before o records) >>> λ r. asked_form Truncated (computed (fault_at_end r.type (sent o.kind (records ++ r ∷ [])))) r

-- ---- refusals, behind faultless fronts

-- both headers, and behind them these records, none of them END
pub record IsOpen (front : List ℕ) (o : Opening) (records : List StreamRecord) : Type 0 where
  pub image_header : List ℕ
  pub domain_header : List ℕ
  pub major : ℕ
  pub minor : ℕ
  pub bytes : List ℕ
  pub whole : front ≡ image_header ++ (domain_header ++ bytes)
  pub is_image_header : IsImageHeader image_header o.version
  pub is_domain_header : IsDomainHeader domain_header o.kind major minor
  pub spelled : Spells (Follows o) bytes records
  pub not_ended : is_ended records ≡ false

-- The input is refused as an image at this place, for this cause, and rest follows the faulty part. It is refused in
-- its marker, behind it in the image header, in the domain header, or in a record behind others.
pub data RefusedLibxcAt (input : List ℕ) (cause : Cause) (rest : List ℕ) : Place → Type 0 where
  in_marker : RefusedAs marker_form input cause rest → RefusedLibxcAt input cause rest places.ImageHeader
  in_header : (marker left : List ℕ) → BeginsAs marker_form input marker left → RefusedAs version_form left cause rest → RefusedLibxcAt input cause rest places.ImageHeader
  in_domain : (header left : List ℕ) (version : ℕ) → input ≡ header ++ left → IsImageHeader header version → RefusedAs kind_form left cause rest → RefusedLibxcAt input cause rest places.DomainHeader
  in_record : (front left : List ℕ) (o : Opening) (records : List StreamRecord) → input ≡ front ++ left → IsOpen front o records → RefusedAs (next_form o records) left cause rest → RefusedLibxcAt input cause rest (places.Record (length records))

abbrev pub RefusedLibxc : List ℕ → Place → Cause → List ℕ → Type 0
RefusedLibxc input place cause rest = RefusedLibxcAt input cause rest place
