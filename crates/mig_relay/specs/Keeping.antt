-- What a relay keeps of the front that it has behind it. It keeps no pages and no bodies.
use Rattle.std.specs.Prelude.{◌≡◌, ◌≢◌, ◌<◌, ◌≤◌, ◌+◌, ◌*◌, ◌^◌, ◌==◌, ◌||◌, ◌&&◌, not, ℕ, true, false, List, [], ◌∷◌, ◌++◌, length, drop, slice_index, min, IfSome, Option, Some, None, ⊤, if◌then◌else◌}
use Rattle.mig_records.specs.PvBodies.{greater}
use Rattle.mig_relay.specs.Common.{padding_len, le32, LibxlRecord, most_body, type_number, End, PageData, X86PvP2mFrames, is_emulator_type, libxc_context_type, libxl_end_type, Cause, is_libxl_ended, image_in, image_among, StreamOf, image_of_stream, word_has_data, IsBegunBody, piece_len, fault_of_record_body, fault_of_libxl_body, RecordHead, Opening, before, fault_of_fields, most_records, with_places, StreamRecord, FrameEntry, types_of, is_ended, ImageOf}
use Rattle.mig_libxl_form.specs.Behind.{AreBehind}
use Rattle.mig_libxl_form.specs.declared.head.RecordsBehind.{RecordsBehind}
use Rattle.mig_restore_form.specs.Seen.{IsSeen}
use Rattle.mig_relay.specs.Parts.{Next, AtMarker, AtVersion, AtKind, AtHead, AtBody, AtFront, AtWords, AtPages, AtPadding, record_with}
use Rattle.mig_relay.specs.Spots.{Outer, Alone, Behind, Spot, AtStart, AtLibxlHeader, AtLibxlHead, AtLibxlBody, AtLibxlPadding, InImage, AtEnd}
use Rattle.mig_relay.specs.declared.state.Relay.{Relay}
use Rattle.mig_relay.specs.declared.state.Coming.TheVariants as comes

-- the words of the PAGE_DATA in hand
abbrev pub words_in_hand : Relay → List ℕ
words_in_hand r = r.words.items

-- ---- in an image

-- Behind an opening and records, of which none ends the image: how many they are, of which types, and the greatest frame
-- number.
pub record KeepsRecords (r : Relay) (o : Opening) (records : List StreamRecord) (types : List ℕ) (high : ℕ) : Type 0 where
  pub seen : IsSeen r.seen o types
  pub top : r.top ≡ high
  pub going : is_ended records ≡ false

-- the same, behind the head of one more
abbrev pub KeepsHead : Relay → Opening → List StreamRecord → RecordHead → ℕ → Type 0
KeepsHead r o records head top = KeepsRecords r o records (types_of records ++ head.kind ∷ []) top

-- of a body with these causes, once these first bytes of it were taken
pub record KeepsBody (r : Relay) (head : RecordHead) (fault : List ℕ → Option Cause) (begun : List ℕ) : Type 0 where
  pub len : r.body.len ≡ head.len
  pub known : IsBegunBody r.body fault begun
  pub less : length begun < head.len

-- the greatest frame number, with that in the first bytes of a list of P2M frames
abbrev pub top_with : ℕ → List ℕ → ℕ → ℕ
top_with type [] top = top
top_with type (b ∷ bytes) top = if type == type_number X86PvP2mFrames then greater top (le32 (b ∷ bytes) 4) else top

-- a head without fault, which isn't that of a PAGE_DATA
pub record IsOther (o : Opening) (records : List StreamRecord) (head : RecordHead) : Type 0 where
  pub fine : fault_of_fields (before o records) head.kind head.len ≡ None
  pub other : head.kind ≢ type_number PageData

-- what is wrong with the body behind this head of an image's record, where it is empty
abbrev pub fault_of_empty : RecordHead → Option Cause
fault_of_empty head = if (head.len == 0) && not (head.kind == type_number PageData) then fault_of_record_body head.kind [] else None

-- both frame numbers of a list of P2M frames come in its first piece
pub record KeepsFirst (r : Relay) (head : RecordHead) (begun : List ℕ) : Type 0 where
  pub coming : head.kind ≡ type_number X86PvP2mFrames → begun ≡ [] → 8 ≤ piece_len r.body
  pub come : head.kind ≡ type_number X86PvP2mFrames → 0 < length begun → 8 ≤ length begun

-- the head of a PAGE_DATA, of a length that is allowed
pub record IsPages (head : RecordHead) : Type 0 where
  pub kind : head.kind ≡ type_number PageData
  pub small : head.len ≤ most_body

-- the words of a PAGE_DATA, of which this one has the next page, behind the entries of the others
pub record KeepsWords (r : Relay) (coming : List (ℕ × ℕ)) (stood : List FrameEntry) : Type 0 where
  pub left : coming ≡ with_places r.page (drop r.page r.words.items)
  pub some : r.page < length r.words.items
  pub paged : word_has_data (slice_index r.words.items r.page) ≡ true
  pub few : length r.words.items ≤ 2 ^ 24
  pub behind : length stood ≡ r.page

-- what a relay keeps where this comes next in an image, and these first bytes of it were taken
abbrev pub KeepsNext : Relay → Next → List ℕ → Type 0
KeepsNext r AtMarker begun = (r.coming ≡ comes.Marker) × (begun ≡ [])
KeepsNext r AtVersion begun = (r.coming ≡ comes.Version) × (begun ≡ [])
KeepsNext r (AtKind version) begun = (r.coming ≡ comes.Kind version) × (begun ≡ [])
KeepsNext r (AtHead o records) begun = (r.coming ≡ comes.Head) × KeepsRecords r o records (types_of records) (before o records).top × (begun ≡ [])
KeepsNext r (AtBody o records head) begun = (r.coming ≡ comes.Body head) × KeepsHead r o records head (top_with head.kind begun (before o records).top) × IsOther o records head × KeepsFirst r head begun × KeepsBody r head (fault_of_record_body head.kind) begun
KeepsNext r (AtFront o records head) begun = (r.coming ≡ comes.Front head) × KeepsHead r o records head (before o records).top × IsPages head × (begun ≡ [])
KeepsNext r (AtWords o records head n) begun = (r.coming ≡ comes.Words head n) × KeepsHead r o records head (before o records).top × IsPages head × ((0 < n) × (8 + 8 * n ≤ head.len)) × (begun ≡ [])
KeepsNext r (AtPages o records head coming stood) begun = (r.coming ≡ comes.Page head) × KeepsHead r o records head (before o records).top × IsPages head × (padding_len head.len ≡ 0) × KeepsWords r coming stood × (begun ≡ [])
KeepsNext r (AtPadding o records head content) begun = (r.coming ≡ comes.Padding head) × KeepsHead r o records head (before o (records ++ record_with records head content ∷ [])).top × (0 < padding_len head.len) × (head.kind ≢ type_number End) × (begun ≡ [])

-- ---- around an image

-- so many records has the image, where one is there
abbrev pub HasNumber : ℕ → Option ImageOf → Type 0
HasNumber n None = ⊤
HasNumber n (Some image) = n ≡ length image.records

-- behind these records of a libxl stream
pub record KeepsWrapper (r : Relay) (records : List LibxlRecord) : Type 0 where
  pub behind : RecordsBehind
  pub is : r.wrapper ≡ Some behind
  pub are : AreBehind behind records
  pub number : HasNumber r.seen.records (image_among records)

-- and none of them ends the stream
abbrev pub KeepsGoing : Relay → List LibxlRecord → Type 0
KeepsGoing r records = KeepsWrapper r records × (is_libxl_ended records ≡ false)

-- and there is room for one more, whose head was taken
abbrev pub KeepsOpen : Relay → List LibxlRecord → Type 0
KeepsOpen r records = KeepsGoing r records × (length records < most_records)

-- the same with one more of this type, which isn't LIBXC_CONTEXT
abbrev pub with_one : ℕ → RecordsBehind → RecordsBehind
with_one type behind = record { records = behind.records + 1; emulated = behind.emulated || is_emulator_type type; image = behind.image }

abbrev pub KeepsOuter : Relay → Outer → Type 0
KeepsOuter r Alone = r.wrapper ≡ None
KeepsOuter r (Behind records) = KeepsOpen r records × (image_among records ≡ None)

-- a stream has an image with so many records
abbrev pub HasRecords : ℕ → StreamOf → Type 0
HasRecords n s = (image : ImageOf) × (image_of_stream s ≡ Some image) × (n ≡ length image.records)

-- a head that is neither END's nor LIBXC_CONTEXT's
abbrev pub IsBodied : RecordHead → Type 0
IsBodied head = (head.kind ≢ libxl_end_type) × (head.kind ≢ libxc_context_type)

-- What a relay keeps where this comes next, and these first bytes of it were taken: of what is judged at once, none.
abbrev pub Keeps : Relay → Spot → List ℕ → Type 0
Keeps r AtStart begun = (r.coming ≡ comes.Start) × (r.wrapper ≡ None) × (begun ≡ [])
Keeps r AtLibxlHeader begun = (r.coming ≡ comes.LibxlHeader) × KeepsWrapper r [] × (begun ≡ [])
Keeps r (AtLibxlHead records) begun = (r.coming ≡ comes.LibxlHead) × KeepsGoing r records × (begun ≡ [])
Keeps r (AtLibxlBody records head) begun = (r.coming ≡ comes.LibxlBody head) × KeepsOpen r records × IsBodied head × KeepsBody r head (fault_of_libxl_body head.kind) begun
Keeps r (AtLibxlPadding records head content) begun = (r.coming ≡ comes.LibxlPadding head) × KeepsOpen r records × IsBodied head × (image_in content ≡ None) × (0 < padding_len head.len) × (begun ≡ [])
Keeps r (InImage outer next) begun = KeepsOuter r outer × KeepsNext r next begun
Keeps r (AtEnd s) begun = (r.coming ≡ comes.End) × HasRecords r.seen.records s × (begun ≡ [])

-- a relay that stands somewhere: nothing was refused yet and nothing failed
abbrev pub Stands : Relay → Type 0
Stands r = (here : Spot) × (begun : List ℕ) × Keeps r here begun

-- ---- what the head of a record leaves

-- of an image: r became t, which waits for what follows the head
pub record HasBegun (r t : Relay) (head : RecordHead) : Type 0 where
  pub seen : t.seen ≡ r.seen
  pub top : t.top ≡ r.top
  pub pages : head.kind ≡ type_number PageData → t.coming ≡ comes.Front head
  pub body : head.kind ≢ type_number PageData → 0 < head.len → t.coming ≡ comes.Body head
  pub begun : head.kind ≢ type_number PageData → 0 < head.len → IsBegunBody t.body (fault_of_record_body head.kind) []
  pub len : head.kind ≢ type_number PageData → 0 < head.len → t.body.len ≡ head.len
  pub p2m : head.kind ≡ type_number X86PvP2mFrames → 0 < head.len → piece_len t.body ≡ min head.len 4096
  pub mark : head.kind ≢ type_number PageData → head.len ≡ 0 → head.kind ≢ type_number End → t.coming ≡ comes.Head
  pub wrapper : (head.kind ≡ type_number End → 0 < head.len) → t.wrapper ≡ r.wrapper
  pub alone : head.kind ≡ type_number End → head.len ≡ 0 → r.wrapper ≡ None → (t.coming ≡ comes.End) × (t.wrapper ≡ None)
  pub wrapped : head.kind ≡ type_number End → head.len ≡ 0 → IfSome r.wrapper (λ behind. (t.coming ≡ comes.LibxlHead)
      × (t.wrapper ≡ Some (record { records = behind.records + 1; emulated = behind.emulated; image = Some r.seen.kind })))

-- the same of a libxl stream, where this is known of the records before
pub record HasBegunLibxl (r t : Relay) (behind : RecordsBehind) (head : RecordHead) : Type 0 where
  pub seen : t.seen ≡ r.seen
  pub image : head.kind ≡ libxc_context_type → (t.coming ≡ comes.Marker) × (t.wrapper ≡ r.wrapper)
  pub end : head.kind ≡ libxl_end_type → t.coming ≡ comes.End
  pub body : head.kind ≢ libxl_end_type → head.kind ≢ libxc_context_type → 0 < head.len → (t.coming ≡ comes.LibxlBody head) × (t.wrapper ≡ r.wrapper)
  pub begun : head.kind ≢ libxl_end_type → head.kind ≢ libxc_context_type → 0 < head.len → IsBegunBody t.body (fault_of_libxl_body head.kind) []
  pub len : head.kind ≢ libxl_end_type → head.kind ≢ libxc_context_type → 0 < head.len → t.body.len ≡ head.len
  pub empty : head.kind ≢ libxl_end_type → head.kind ≢ libxc_context_type → head.len ≡ 0 → (t.coming ≡ comes.LibxlHead) × (t.wrapper ≡ Some (with_one head.kind behind))
