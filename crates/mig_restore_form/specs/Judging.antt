-- Judging a record: its parts in their order, and the causes that are tried in each, in the order of their numbers.
use Rattle.std.specs.Prelude.{ℕ, ◌+◌, ◌*◌, ◌^◌, List, [], ◌∷◌, ◌++◌, length, drop, Option, Some, None, ◌==◌, not, nat_le, if◌then◌else◌}
use Rattle.mig_restore_form.specs.Common.{option_or, padding_len, le32, Passes, type_number, type_of_number, is_optional, Kind, RecordType, End, PageData, X86PvInfo, X86PvP2mFrames, Cause, BadLength, TooManyRecords, Truncated, PageType, type_of, type_or_none, level_of, word_type, word_pfn, word_has_data, GuestOf, fault_of_long, fault_of_length, fault_of_count, fault_of_words, words, data_len_of, fault_of_type, PartCode, code_of_number, fault_of_pv_info, fault_of_p2m, fault_of_body, parts_of_body}
use Rattle.mig_bytes.specs.Judged.{Judged, ◌>>=◌, part, tried, said_at, plain_at, each}
use Rattle.mig_headers.specs.Rows.{first_fault}
use Rattle.mig_pvtables.specs.Faults.{fault_of_guest}
use Rattle.mig_pvtables.specs.Tables.{fault_of_page_table}
use Rattle.mig_restore_form.specs.Mean.{sent, type_in_guest}
use Rattle.mig_restore_form.specs.Record.{FrameEntry, StreamRecord, Content, types_of, is_verified, placed_content}
use Rattle.mig_restore_form.specs.Record.Content.{Nothing, Frames, Sets, Lists}

-- what the headers say
pub record Opening : Type 0 where
  pub version : ℕ
  pub kind : Kind

abbrev pub opening_of : ℕ → Kind → Opening
opening_of version kind = record { version = version; kind = kind }

-- what is before a record: the headers, the types of the records, and the greatest frame number of a PV guest so far
pub record Before : Type 0 where
  pub opening : Opening
  pub types : List ℕ
  pub top : ℕ

-- these records behind this opening
abbrev pub before : Opening → List StreamRecord → Before
before o records = record { opening = o; types = types_of records; top = (sent o.kind records).top }

-- ---- the head

-- the most records of an image
abbrev pub most_records : ℕ
most_records = 2 ^ 28

abbrev pub fault_of_number : List ℕ → Option Cause
fault_of_number types = first_fault ((nat_le most_records (length types), TooManyRecords) ∷ [])

-- what is wrong with a head of this type and length
unfoldable pub fault_of_fields : Before → ℕ → ℕ → Option Cause
fault_of_fields b type len =
    option_or (fault_of_long len)
    (option_or (fault_of_type b.opening.version b.opening.kind b.types type)
    (option_or (fault_of_length type len) (fault_of_number b.types)))

abbrev pub fault_of_head : Before → List ℕ → Option Cause
fault_of_head b head = fault_of_fields b (le32 head 0) (le32 head 4)

abbrev pub head_at : Before → List ℕ → Judged Cause (List ℕ)
head_at b input = said_at Truncated (fault_of_head b) (λ head. head) 8 input

-- ---- bodies

-- a body that sets parts of this code
abbrev pub sets_at : PartCode → ℕ → List ℕ → Judged Cause Content
sets_at code len input = said_at Truncated (fault_of_body code) (λ body. Sets code (parts_of_body code body)) len input

-- the body of an X86_PV_INFO, which isn't kept
abbrev pub info_at : ℕ → List ℕ → Judged Cause Content
info_at len input = said_at Truncated fault_of_pv_info (λ _. Nothing) len input

-- the body of an X86_PV_P2M_FRAMES: its last frame number, and the PFNs of the P2M frames
abbrev pub lists_of : List ℕ → Content
lists_of body = Lists (le32 body 4) (drop 8 body)

abbrev pub p2m_at : ℕ → List ℕ → Judged Cause Content
p2m_at len input = said_at Truncated fault_of_p2m lists_of len input

-- ---- the body of a PAGE_DATA record

-- the type in a word without fault
abbrev pub type_in_word : ℕ → PageType
type_in_word w = type_or_none (type_of (word_type w))

abbrev pub fault_of_data : ℕ → List ℕ → Option Cause
fault_of_data len ws = first_fault ((not (len == data_len_of ws), BadLength len) ∷ [])

abbrev pub words_at : ℕ → List ℕ → Judged Cause (List ℕ)
words_at n input = plain_at Truncated (words n) (8 * n) input

-- the words, each with its place in the record, from this one on
abbrev pub with_places : ℕ → List ℕ → List (ℕ × ℕ)
with_places place [] = []
with_places place (w ∷ ws) = (place, w) ∷ with_places (place + 1) ws

-- what is wrong with a page at this place of its record, where it is a table of a level
abbrev pub fault_of_level : ℕ → ℕ → Option ℕ → List ℕ → Option Cause
fault_of_level top place None page = None
fault_of_level top place (Some level) page = fault_of_page_table place top level page

-- what is wrong with the page of a word at its place: in a PV stream that of a table is judged
abbrev pub fault_of_page : Kind → ℕ → ℕ × ℕ → List ℕ → Option Cause
fault_of_page kind top at page = fault_of_level top at.0 (level_of (type_in_guest kind (type_in_word at.1))) page

abbrev pub page_at : Kind → ℕ → ℕ × ℕ → List ℕ → Judged Cause (Option (List ℕ))
page_at kind top at input = if word_has_data at.1 then (do
  page ← part Truncated 4096 input
  _ ← tried (fault_of_page kind top at page.0) page.1
  Passes (Some page.0) page.1) else Passes None input

abbrev pub entry_at : Kind → ℕ → ℕ × ℕ → List ℕ → Judged Cause FrameEntry
entry_at kind top at input = do
  page ← page_at kind top at input
  Passes (record { pfn = word_pfn at.1; type = type_in_word at.1; page = page.0 }) page.1

-- what is wrong with the words of a body of so many bytes: a word, or else the length that they ask for
abbrev pub fault_of_list : Kind → ℕ → ℕ → List ℕ → Option Cause
fault_of_list kind top len ws = option_or (fault_of_words kind top ws) (fault_of_data len ws)

-- the count, and the words
abbrev pub list_at : Kind → ℕ → ℕ → List ℕ → Judged Cause (List ℕ)
list_at kind top len input = do
  front ← part Truncated 8 input
  _ ← tried (fault_of_count len (le32 front.0 0)) front.1
  ws ← words_at (le32 front.0 0) front.1
  _ ← tried (fault_of_list kind top len ws.0) ws.1
  Passes ws.0 ws.1

abbrev pub entries_at : Kind → ℕ → ℕ → List ℕ → Judged Cause (List FrameEntry)
entries_at kind top len input = do
  ws ← list_at kind top len input
  each (entry_at kind top) (with_places 0 ws.0) ws.1

abbrev pub pages_at : Kind → ℕ → ℕ → List ℕ → Judged Cause Content
pages_at kind top len input = do
  entries ← entries_at kind top len input
  Passes (Frames entries.0) entries.1

-- ---- a record

-- the code of the parts that records of this type set, if any
abbrev pub code_of_type : RecordType → Option PartCode
code_of_type this = code_of_number (type_number this)

-- the records that only mark a place have no body
abbrev pub coded_at : Option PartCode → ℕ → List ℕ → Judged Cause Content
coded_at None len input = Passes Nothing input
coded_at (Some code) len input = sets_at code len input

-- a body of this type, in a stream of this kind with frame numbers up to top
abbrev pub typed_at : Kind → ℕ → Option RecordType → ℕ → List ℕ → Judged Cause Content
typed_at kind top None len input = Passes Nothing input
typed_at kind top (Some PageData) len input = pages_at kind top len input
typed_at kind top (Some X86PvInfo) len input = info_at len input
typed_at kind top (Some X86PvP2mFrames) len input = p2m_at len input
typed_at kind top (Some this) len input = coded_at (code_of_type this) len input

-- an optional record says nothing, whatever its body
abbrev pub body_at : Kind → ℕ → ℕ → ℕ → List ℕ → Judged Cause Content
body_at kind top type len input = if is_optional type then plain_at Truncated (λ _. Nothing) len input else typed_at kind top (type_of_number type) len input

-- a record: its head, its body, its padding; what is before it places what it says
unfoldable pub record_at : Before → List ℕ → Judged Cause StreamRecord
record_at b input = do
  head ← head_at b input
  body ← body_at b.opening.kind b.top (le32 head.0 0) (le32 head.0 4) head.1
  padding ← part Truncated (padding_len (le32 head.0 4)) body.1
  Passes (record { type = le32 head.0 0; content = placed_content (is_verified b.types) body.0 }) padding.1

-- ---- the whole guest

-- asked at END
abbrev pub fault_at_end : ℕ → GuestOf → Option Cause
fault_at_end type g = if type == type_number End then fault_of_guest g else None

-- a record behind these records; the one that ends the image asks that what all of them sent has no fault
unfoldable pub next_at : Opening → List StreamRecord → List ℕ → Judged Cause StreamRecord
next_at o records input = do
  r ← record_at (before o records) input
  _ ← tried (fault_at_end r.0.type (sent o.kind (records ++ r.0 ∷ []))) r.1
  Passes r.0 r.1
