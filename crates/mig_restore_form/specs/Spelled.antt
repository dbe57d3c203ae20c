-- The spelling of an image, in the words of the format: headers, then records one after the other.
use Rattle.std.specs.Prelude.{◌≡◌, ℕ, ◌*◌, ◌≤◌, ◌<◌, ◌^◌, true, false, Bool, List, [], ◌∷◌, ◌++◌, length, Option, Some, None, IsSome}
use Rattle.mig_restore_form.specs.Common.{All, le32, Spells, IsImageHeader, IsDomainHeader, Kind, Pv, Hvm, word_pfn, word_has_data, GuestOf, context_key, IsRecord, words, has_reserved_type, names_outside, IsInOrder, record_row_of, type_number, most_body, RecordType, End, PageData, StaticDataEnd, Verify, X86PvInfo, X86PvP2mFrames, PartCode, IsPvInfo, IsP2m, IsBody, IsFew, Part}
use Rattle.std.specs.FinMap as maps
use Rattle.mig_pvtables.specs.WholePv.{IsCompletePv}
use Rattle.mig_guest.specs.Tables.{EachEntry, IsWithin}
use Rattle.mig_restore_form.specs.Judging.{Opening, most_records, type_in_word, code_of_type}
use Rattle.mig_restore_form.specs.Mean.{sent, mean, type_in_guest}
use Rattle.mig_restore_form.specs.Record.{StreamRecord, FrameEntry, Content, types_of, is_ended, is_verified, placed_content}
use Rattle.mig_restore_form.specs.Record.Content.{Nothing, Frames, Sets, Lists}

-- ---- PAGE_DATA

-- a page where the word's type has data
abbrev pub IsPage : Bool → List ℕ → Option (List ℕ) → Type 0
IsPage true bytes page = (length bytes ≡ 4096) × (page ≡ Some bytes)
IsPage false bytes page = (bytes ≡ []) × (page ≡ None)

-- the entry of a word, with these bytes; a table of a PV guest says no superpage, and no frame above top
pub record IsEntry (kind : Kind) (top word : ℕ) (bytes : List ℕ) (e : FrameEntry) : Type 0 where
  pub pfn : e.pfn ≡ word_pfn word
  pub type : e.type ≡ type_in_word word
  pub page : IsPage (word_has_data word) bytes e.page
  pub within : EachEntry (IsWithin top) (record { type = type_in_guest kind e.type; page = e.page })

-- the entries of these words, in order
abbrev pub AreEntries : Kind → ℕ → List ℕ → List ℕ → List FrameEntry → Type 0
AreEntries kind top [] bytes es = (bytes ≡ []) × (es ≡ [])
AreEntries kind top (w ∷ ws) bytes es =
    (page : List ℕ) × (rest : List ℕ) × (e : FrameEntry) × (others : List FrameEntry) × (bytes ≡ page ++ rest) × (es ≡ e ∷ others) × IsEntry kind top w page e × AreEntries kind top ws rest others

-- a word of a type that isn't reserved, whose frame lies inside
abbrev pub IsGoodWord : Kind → ℕ → ℕ → Type 0
IsGoodWord kind top word = (has_reserved_type word ≡ false) × (names_outside kind top word ≡ false)

-- a count, as many words, and the pages
pub record IsBatch (kind : Kind) (top : ℕ) (body : List ℕ) (es : List FrameEntry) : Type 0 where
  pub front : List ℕ
  pub words_bytes : List ℕ
  pub pages_bytes : List ℕ
  pub whole : body ≡ front ++ (words_bytes ++ pages_bytes)
  pub front_len : length front ≡ 8
  pub some : 0 < le32 front 0
  pub words_len : length words_bytes ≡ 8 * le32 front 0
  pub good : All (IsGoodWord kind top) (words (le32 front 0) words_bytes)
  pub entries : AreEntries kind top (words (le32 front 0) words_bytes) pages_bytes es

-- ---- records

-- a body of this type in a stream of this kind, with frame numbers up to top, and what it says
pub data HasContent (kind : Kind) (top : ℕ) : ℕ → List ℕ → Content → Type 0 where
  optional : (type : ℕ) (body : List ℕ) → 2 ^ 31 ≤ type → HasContent kind top type body Nothing
  ends : HasContent kind top (type_number End) [] Nothing
  pages : (body : List ℕ) (es : List FrameEntry) → IsBatch kind top body es → HasContent kind top (type_number PageData) body (Frames es)
  sets : (this : RecordType) (code : PartCode) (body : List ℕ) (ps : List Part) → code_of_type this ≡ Some code → (record_row_of this).allows (length body) ≡ true → IsBody code body ps → HasContent kind top (type_number this) body (Sets code ps)
  info : (body : List ℕ) → length body ≡ 8 → IsPvInfo body → HasContent kind top (type_number X86PvInfo) body Nothing
  p2m_frames : (last : ℕ) (frames body : List ℕ) → IsP2m last frames body → HasContent kind top (type_number X86PvP2mFrames) body (Lists last frames)
  static_end : HasContent kind top (type_number StaticDataEnd) [] Nothing
  verify : HasContent kind top (type_number Verify) [] Nothing

-- what END asks of the guest: of an HVM guest its context and not too many frames, of a PV guest all that makes it whole
abbrev pub IsComplete : Kind → GuestOf → Type 0
IsComplete Hvm g = IsSome (maps.get g.parts context_key) × IsFew g.frames
IsComplete Pv g = IsCompletePv g

-- a record that may come behind these records
pub record Follows (o : Opening) (records : List StreamRecord) (r : StreamRecord) (bytes : List ℕ) : Type 0 where
  pub body : List ℕ
  pub is : IsRecord r.type body bytes
  pub said : Content
  pub says : HasContent o.kind (sent o.kind records).top r.type body said
  pub placed : r.content ≡ placed_content (is_verified (types_of records)) said
  pub small : length body ≤ most_body
  pub ordered : IsInOrder o.version o.kind (types_of records) r.type
  pub few : length records < most_records
  pub not_ended : is_ended records ≡ false
  pub complete : r.type ≡ type_number End → IsComplete o.kind (sent o.kind (records ++ r ∷ []))

-- an image without a fault: its headers, records, the last of them END, and then what follows
pub record IsImage (input : List ℕ) (o : Opening) (records : List StreamRecord) (rest : List ℕ) : Type 0 where
  pub image_header : List ℕ
  pub domain_header : List ℕ
  pub major : ℕ
  pub minor : ℕ
  pub bytes : List ℕ
  pub whole : input ≡ image_header ++ (domain_header ++ (bytes ++ rest))
  pub is_image_header : IsImageHeader image_header o.version
  pub is_domain_header : IsDomainHeader domain_header o.kind major minor
  pub spelled : Spells (Follows o) bytes records
  pub ended : is_ended records ≡ true

-- a front of the input is an accepted stream with this guest, and rest follows it
pub record Accepted (input : List ℕ) (guest : GuestOf) (rest : List ℕ) : Type 0 where
  pub opening : Opening
  pub records : List StreamRecord
  pub image : IsImage input opening records rest
  pub means : guest ≡ mean opening.kind records
