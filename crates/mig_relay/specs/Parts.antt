-- The parts of an image (libxc migration stream, "Headers" and "Records"): which comes next behind a faultless front, and
-- what is judged from there.
use Rattle.std.specs.Prelude.{◌≡◌, ◌<◌, ℕ, List, [], ◌∷◌, ◌++◌, length, Option}
use Rattle.mig_relay.specs.Common.{padding_len, Passes, Cause, Truncated, Place, DomainHeader, Record, word_pfn, RecordHead, Opening, opening_of, before, body_at, type_in_word, fault_of_list, words_at, with_places, entry_at, pages_at, StreamRecord, FrameEntry, Content, types_of, is_verified, placed_content, ImageOf, opening_behind, kind_at}
use Rattle.mig_bytes.specs.Judged.{Judged, ◌>>=◌, part, tried, each, placed, said_at}
use Rattle.mig_relay.specs.Images.{open_image_at, open_records}
use Rattle.mig_restore_form.specs.Record.Content.{Frames}

-- What comes next behind a faultless front of an image, and what of the front decides how it is judged. It is the
-- marker, the rest of the image header, the domain header, or the head, body or padding of a record. Of a PAGE_DATA it
-- is the words, which are so many, or the pages of these words with their places, behind these entries.
pub data Next : Type 0 where
  AtMarker : Next
  AtVersion : Next
  AtKind : ℕ → Next
  AtHead : Opening → List StreamRecord → Next
  AtBody : Opening → List StreamRecord → RecordHead → Next
  AtFront : Opening → List StreamRecord → RecordHead → Next
  AtWords : Opening → List StreamRecord → RecordHead → ℕ → Next
  AtPages : Opening → List StreamRecord → RecordHead → List (ℕ × ℕ) → List FrameEntry → Next
  AtPadding : Opening → List StreamRecord → RecordHead → Content → Next

-- the record of this head and body, behind these records
abbrev pub record_with : List StreamRecord → RecordHead → Content → StreamRecord
record_with records head content = record { type = head.kind; content = placed_content (is_verified (types_of records)) content }

-- a record more, and all that follows it
abbrev pub with_record : Opening → List StreamRecord → Judged Cause StreamRecord → Judged (Place × Cause) ImageOf
with_record o records judged = do
  r ← placed (Record (length records)) judged
  open_records o (records ++ r.0 ∷ []) r.1

abbrev pub padded : List StreamRecord → RecordHead → Content → List ℕ → Judged Cause StreamRecord
padded records head content input = do
  padding ← part Truncated (padding_len head.len) input
  Passes (record_with records head content) padding.1

-- the padding behind a body that was judged so, and all that follows it
abbrev pub with_body : Opening → List StreamRecord → RecordHead → Judged Cause Content → Judged (Place × Cause) ImageOf
with_body o records head judged = with_record o records (judged >>= λ body. padded records head body.0 body.1)

-- the pages of these words, behind entries that are whole
abbrev pub pages_behind : Opening → List StreamRecord → RecordHead → List (ℕ × ℕ) → List FrameEntry → List ℕ → Judged (Place × Cause) ImageOf
pages_behind o records head coming stood input = with_body o records head (do
  entries ← each (entry_at o.kind (before o records).top) coming input
  Passes (Frames (stood ++ entries.0)) entries.1)

-- so many words, and then their pages
abbrev pub words_behind : Opening → List StreamRecord → RecordHead → ℕ → List ℕ → Judged (Place × Cause) ImageOf
words_behind o records head n input = with_body o records head (do
  ws ← words_at n input
  _ ← tried (fault_of_list o.kind (before o records).top head.len ws.0) ws.1
  entries ← each (entry_at o.kind (before o records).top) (with_places 0 ws.0) ws.1
  Passes (Frames entries.0) entries.1)

abbrev pub entry_of_word : ℕ → Option (List ℕ) → FrameEntry
entry_of_word word page = record { pfn = word_pfn word; type = type_in_word word; page = page }

-- what is judged from there
abbrev pub judged_next : Next → List ℕ → Judged (Place × Cause) ImageOf
judged_next AtMarker input = open_image_at input
judged_next AtVersion input = do
  opening ← opening_behind input
  open_records opening.0 [] opening.1
judged_next (AtKind version) input = do
  kind ← placed DomainHeader (kind_at input)
  open_records (opening_of version kind.0) [] kind.1
judged_next (AtHead o records) input = open_records o records input
judged_next (AtBody o records head) input = with_body o records head (body_at o.kind (before o records).top head.kind head.len input)
judged_next (AtFront o records head) input = with_body o records head (pages_at o.kind (before o records).top head.len input)
judged_next (AtWords o records head n) input = words_behind o records head n input
judged_next (AtPages o records head coming stood) input = pages_behind o records head coming stood input
judged_next (AtPadding o records head content) input = with_record o records (padded records head content input)

-- What is judged begins with a part of so many bytes, more than none, at this place and with these causes; and then this
-- follows.
pub record BeginsWithPart {X : Type 0} (judged_here : List ℕ → Judged (Place × Cause) X) (place : Place) (size : ℕ) (fault : List ℕ → Option Cause) (follows : List ℕ → List ℕ → Judged (Place × Cause) X) : Type 0 where
  pub judged : (input : List ℕ) → judged_here input ≡ (placed place (said_at Truncated fault (λ b. b) size input) >>= λ b. follows b.0 b.1)
  pub some : 0 < size
