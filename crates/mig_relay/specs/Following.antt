-- Which part comes next behind one that was passed on (libxc migration stream, "Headers" and "Records"; libxl migration
-- stream, "Header" and "Records"), and how many bytes of the record in hand are still to come.
use Rattle.std.specs.Prelude.{◌≡◌, ◌≢◌, ◌≤◌, ◌+◌, ◌-◌, ◌*◌, ⊤, ℕ, true, false, List, [], ◌∷◌, ◌++◌, length, count_by, Option, Some, None}
use Rattle.mig_relay.specs.Common.{padding_len, le32, LibxlRecord, libxl_end_type, libxc_context_type, type_number, Place, End, PageData, image_among, image_in, StreamOf, word_has_data, head_in, RecordHead, Opening, StreamRecord, ImageOf}
use Rattle.mig_headers.specs.declared.fault.Place.TheVariants.{ImageHeader, DomainHeader, Record, LibxlHeader, LibxlRecord as AtRecord}
use Rattle.mig_records.specs.Words.{words}
use Rattle.mig_relay.specs.Parts.{Next, AtMarker, AtVersion, AtKind, AtHead, AtBody, AtFront, AtWords, AtPages, AtPadding}
use Rattle.mig_relay.specs.Spots.{Outer, Alone, Behind, Spot, AtStart, AtLibxlHeader, AtLibxlHead, AtLibxlBody, AtLibxlPadding, InImage, AtEnd, image_record, is_ident, number_of_words}

-- ---- the place of what comes next

abbrev pub place_of_next : Next → Place
place_of_next AtMarker = ImageHeader
place_of_next AtVersion = ImageHeader
place_of_next (AtKind version) = DomainHeader
place_of_next (AtHead o records) = Record (length records)
place_of_next (AtBody o records head) = Record (length records)
place_of_next (AtFront o records head) = Record (length records)
place_of_next (AtWords o records head n) = Record (length records)
place_of_next (AtPages o records head coming stood) = Record (length records)
place_of_next (AtPadding o records head content) = Record (length records)

abbrev pub place_of_spot : Spot → Option Place
place_of_spot AtStart = Some ImageHeader
place_of_spot AtLibxlHeader = Some LibxlHeader
place_of_spot (AtLibxlHead records) = Some (AtRecord (length records))
place_of_spot (AtLibxlBody records head) = Some (AtRecord (length records))
place_of_spot (AtLibxlPadding records head content) = Some (AtRecord (length records))
place_of_spot (InImage outer next) = Some (place_of_next next)
place_of_spot (AtEnd s) = None

-- ---- the record in hand: its head was taken, and some of its bytes are still to come

abbrev pub head_of_next : Next → Option RecordHead
head_of_next (AtBody o records head) = Some head
head_of_next (AtFront o records head) = Some head
head_of_next (AtWords o records head n) = Some head
head_of_next (AtPages o records head coming stood) = Some head
head_of_next (AtPadding o records head content) = Some head
head_of_next _ = None

-- its head
abbrev pub in_hand : Spot → Option RecordHead
in_hand (AtLibxlBody records head) = Some head
in_hand (AtLibxlPadding records head content) = Some head
in_hand (InImage outer next) = head_of_next next
in_hand _ = None

-- what follows a head: a body and its padding
abbrev pub bytes_behind_head : RecordHead → ℕ
bytes_behind_head head = head.len + padding_len head.len

-- how many of these words, which stand with their places, have a page
abbrev pub pages_to_come : List (ℕ × ℕ) → ℕ
pages_to_come coming = count_by (λ at. word_has_data at.1) coming

abbrev pub to_come_of_next : Next → ℕ
to_come_of_next (AtBody o records head) = bytes_behind_head head
to_come_of_next (AtFront o records head) = bytes_behind_head head
to_come_of_next (AtWords o records head n) = bytes_behind_head head - 8
to_come_of_next (AtPages o records head coming stood) = 4096 * pages_to_come coming
to_come_of_next (AtPadding o records head content) = padding_len head.len
to_come_of_next _ = 0

-- how many bytes of it come from the beginning of this part on
abbrev pub to_come : Spot → ℕ
to_come (AtLibxlBody records head) = bytes_behind_head head
to_come (AtLibxlPadding records head content) = padding_len head.len
to_come (InImage outer next) = to_come_of_next next
to_come _ = 0

abbrev pub head_spot_of_next : Next → Next
head_spot_of_next (AtBody o records head) = AtHead o records
head_spot_of_next (AtFront o records head) = AtHead o records
head_spot_of_next (AtWords o records head n) = AtHead o records
head_spot_of_next (AtPages o records head coming stood) = AtHead o records
head_spot_of_next (AtPadding o records head content) = AtHead o records
head_spot_of_next next = next

-- where its head stood
abbrev pub head_spot : Spot → Spot
head_spot (AtLibxlBody records head) = AtLibxlHead records
head_spot (AtLibxlPadding records head content) = AtLibxlHead records
head_spot (InImage outer next) = InImage outer (head_spot_of_next next)
head_spot here = here

-- the words of a PAGE_DATA are still to come: behind their count, so many of them
pub data Due : Type 0 where
  NothingDue : Due
  CountDue : Due
  WordsDue : ℕ → Due

abbrev pub due_of_next : Next → Due
due_of_next (AtFront o records head) = CountDue
due_of_next (AtWords o records head n) = WordsDue n
due_of_next _ = NothingDue

abbrev pub due : Spot → Due
due (InImage outer next) = due_of_next next
due _ = NothingDue

-- where so many words are due, this piece has them, and the body is filled: 8 bytes up to their count, 8 for each word, and
-- 4096 for each that has data
abbrev pub FillsBody : Due → List ℕ → RecordHead → Type 0
FillsBody (WordsDue n) piece head = 8 + 8 * n + 4096 * count_by word_has_data (words n piece) ≡ head.len
FillsBody _ piece head = ⊤

-- ---- what follows

-- What comes behind a whole record of this type, whose head stood there: the next record, or nothing behind END. Behind
-- LIBXC_CONTEXT comes an image, and there is one. Behind that image comes the next record of the libxl stream around
-- it.
pub data ComesBehind : Spot → ℕ → Spot → Type 0 where
  libxl_next : (records : List LibxlRecord) (r : LibxlRecord) (type : ℕ) → type ≢ libxl_end_type → type ≢ libxc_context_type → image_in r.content ≡ None → ComesBehind (AtLibxlHead records) type (AtLibxlHead (records ++ r ∷ []))
  libxl_context : (records : List LibxlRecord) (type : ℕ) → type ≡ libxc_context_type → image_among records ≡ None → ComesBehind (AtLibxlHead records) type (InImage (Behind records) AtMarker)
  libxl_end : (records : List LibxlRecord) (type : ℕ) (s : StreamOf) → type ≡ libxl_end_type → ComesBehind (AtLibxlHead records) type (AtEnd s)
  image_next : (outer : Outer) (o : Opening) (records : List StreamRecord) (r : StreamRecord) (type : ℕ) → type ≢ type_number End → ComesBehind (InImage outer (AtHead o records)) type (InImage outer (AtHead o (records ++ r ∷ [])))
  image_end : (o : Opening) (records : List StreamRecord) (type : ℕ) (s : StreamOf) → type ≡ type_number End → ComesBehind (InImage Alone (AtHead o records)) type (AtEnd s)
  inner_end : (around : List LibxlRecord) (o : Opening) (records : List StreamRecord) (type : ℕ) (image : ImageOf) → type ≡ type_number End → ComesBehind (InImage (Behind around) (AtHead o records)) type (AtLibxlHead (around ++ image_record image ∷ []))

-- Where this comes next, and these first bytes of it were taken, a piece is passed on; and then that comes next, and these
-- first bytes of it were taken.
pub data ComesNext : Spot → List ℕ → List ℕ → Spot → List ℕ → Type 0 where
  image_opens : (piece : List ℕ) → length piece ≡ 8 → is_ident piece ≡ false → ComesNext AtStart [] piece (InImage Alone AtVersion) []
  wrapper_opens : (piece : List ℕ) → length piece ≡ 8 → is_ident piece ≡ true → ComesNext AtStart [] piece AtLibxlHeader []
  wrapper_header : (piece : List ℕ) → length piece ≡ 8 → ComesNext AtLibxlHeader [] piece (AtLibxlHead []) []
  marker : (outer : Outer) (piece : List ℕ) → length piece ≡ 8 → ComesNext (InImage outer AtMarker) [] piece (InImage outer AtVersion) []
  version : (outer : Outer) (n : ℕ) (piece : List ℕ) → length piece ≡ 16 → ComesNext (InImage outer AtVersion) [] piece (InImage outer (AtKind n)) []
  kind : (outer : Outer) (n : ℕ) (o : Opening) (piece : List ℕ) → length piece ≡ 16 → ComesNext (InImage outer (AtKind n)) [] piece (InImage outer (AtHead o [])) []
  -- a head, and its record is in hand; or that is whole
  libxl_begins : (records : List LibxlRecord) (piece : List ℕ) → length piece ≡ 8 → ComesNext (AtLibxlHead records) [] piece (AtLibxlBody records (head_in piece)) []
  libxl_whole : (records : List LibxlRecord) (piece : List ℕ) (next : Spot) → length piece ≡ 8 → (head_in piece).len ≡ 0 → ComesBehind (AtLibxlHead records) (head_in piece).kind next → ComesNext (AtLibxlHead records) [] piece next []
  image_begins : (outer : Outer) (o : Opening) (records : List StreamRecord) (piece : List ℕ) → length piece ≡ 8 → (head_in piece).kind ≢ type_number PageData → ComesNext (InImage outer (AtHead o records)) [] piece (InImage outer (AtBody o records (head_in piece))) []
  pages_begin : (outer : Outer) (o : Opening) (records : List StreamRecord) (piece : List ℕ) → length piece ≡ 8 → (head_in piece).kind ≡ type_number PageData → ComesNext (InImage outer (AtHead o records)) [] piece (InImage outer (AtFront o records (head_in piece))) []
  image_whole : (outer : Outer) (o : Opening) (records : List StreamRecord) (piece : List ℕ) (next : Spot) → length piece ≡ 8 → (head_in piece).len ≡ 0 → (head_in piece).kind ≢ type_number PageData → ComesBehind (InImage outer (AtHead o records)) (head_in piece).kind next → ComesNext (InImage outer (AtHead o records)) [] piece next []
  -- more of the record in hand, first the count of a PAGE_DATA's words
  count : (outer : Outer) (o : Opening) (records : List StreamRecord) (head : RecordHead) (piece : List ℕ) → length piece ≡ 8 → 8 + 8 * le32 piece 0 ≤ head.len → ComesNext (InImage outer (AtFront o records head)) [] piece (InImage outer (AtWords o records head (le32 piece 0))) []
  more : (here next : Spot) (begun piece front : List ℕ) (head : RecordHead) → in_hand here ≡ Some head → in_hand next ≡ Some head → head_spot next ≡ head_spot here → due here ≢ CountDue → due next ≡ NothingDue → FillsBody (due here) piece head
      → length begun + length piece + to_come next ≡ to_come here + length front → ComesNext here begun piece next front
  -- the rest of it
  whole : (here next : Spot) (begun piece : List ℕ) (head : RecordHead) → in_hand here ≡ Some head → due here ≢ CountDue → FillsBody (due here) piece head → length begun + length piece ≡ to_come here → ComesBehind (head_spot here) head.kind next → ComesNext here begun piece next []

-- ---- what leads to a part

-- where pages come next, their words are those in hand before
abbrev pub KeepsNumber : Spot → Spot → Type 0
KeepsNumber here (InImage outer (AtPages o records head coming stood)) = length stood + length coming ≡ number_of_words here
KeepsNumber here _ = ⊤

-- These bytes lead there from the start of a stream, part by part; and the last of them are first bytes of what comes next.
pub data LeadsTo : List ℕ → Spot → List ℕ → Type 0 where
  from_start : LeadsTo [] AtStart []
  leads_on : (bytes piece : List ℕ) (here next : Spot) (begun front : List ℕ) → LeadsTo bytes here begun → ComesNext here begun piece next front → KeepsNumber here next → LeadsTo (bytes ++ piece) next front
  begins_part : (bytes piece : List ℕ) (here : Spot) (begun : List ℕ) → LeadsTo bytes here begun → LeadsTo (bytes ++ piece) here (begun ++ piece)
