-- Where a stream of either form goes on behind a faultless front (libxl migration stream, "Header" and "Records").
use Rattle.std.specs.Prelude.{ℕ, ◌+◌, ◌*◌, ◌==◌, ◌&&◌, nat_le, Bool, List, [], ◌∷◌, ◌++◌, length, take, Option, None, if◌then◌else◌}
use Rattle.mig_relay.specs.Common.{padding_len, be64, Passes, LibxlRecord, LibxlContent, Image, libxc_context_type, libxl_ident, fault_of_marker, Cause, Truncated, Place, StreamOf, Bare, RecordHead, ImageOf, Judged, ◌>>=◌, part, placed}
use Rattle.mig_headers.specs.declared.fault.Place.TheVariants.{LibxlRecord as AtRecord}
use Rattle.mig_relay.specs.Streams.{open_stream_at, open_wrapped, open_libxl_records, open_body}
use Rattle.mig_relay.specs.Parts.{Next, AtVersion, AtKind, AtBody, AtWords, AtPages, judged_next}

-- an image that stands alone, or behind these records of a libxl stream and a head of LIBXC_CONTEXT
pub data Outer : Type 0 where
  Alone : Outer
  Behind : List LibxlRecord → Outer

-- What comes next behind a faultless front of a stream. It is the first 8 bytes; the header behind a libxl ident; the
-- head, body or padding of a libxl record; a part of an image; or nothing, since this stream is over.
pub data Spot : Type 0 where
  AtStart : Spot
  AtLibxlHeader : Spot
  AtLibxlHead : List LibxlRecord → Spot
  AtLibxlBody : List LibxlRecord → RecordHead → Spot
  AtLibxlPadding : List LibxlRecord → RecordHead → LibxlContent → Spot
  InImage : Outer → Next → Spot
  AtEnd : StreamOf → Spot

-- the record of LIBXC_CONTEXT with this image
abbrev pub image_record : ImageOf → LibxlRecord
image_record image = record { type = libxc_context_type; content = Image image }

-- what follows a whole image
abbrev pub carry : Outer → ImageOf × List ℕ → Judged (Place × Cause) StreamOf
carry Alone image = Passes (Bare image.0) image.1
carry (Behind records) image = open_libxl_records (records ++ image_record image.0 ∷ []) image.1

-- the padding of a libxl record, and all that follows it
abbrev pub libxl_padded : List LibxlRecord → RecordHead → LibxlContent → List ℕ → Judged (Place × Cause) StreamOf
libxl_padded records head content input = do
  padding ← placed (AtRecord (length records)) (part Truncated (padding_len head.len) input)
  open_libxl_records (records ++ record { type = head.kind; content = content } ∷ []) padding.1

-- the ident of a libxl stream
abbrev pub is_ident : List ℕ → Bool
is_ident bytes = be64 bytes 0 == libxl_ident

-- the first 8 bytes are the ident of a libxl stream
abbrev pub begins_with_ident : List ℕ → Bool
begins_with_ident bytes = nat_le 8 (length bytes) && is_ident (take 8 bytes)

-- what is wrong with the first 8 bytes: where they aren't the ident, they are an image's marker
abbrev pub fault_of_first : List ℕ → Option Cause
fault_of_first bytes = if is_ident bytes then None else fault_of_marker bytes

-- what is judged from there
abbrev pub spot : Spot → List ℕ → Judged (Place × Cause) StreamOf
spot AtStart input = open_stream_at input
spot AtLibxlHeader input = open_wrapped input
spot (AtLibxlHead records) input = open_libxl_records records input
spot (AtLibxlBody records head) input = do
  content ← placed (AtRecord (length records)) (open_body head.kind head.len input)
  libxl_padded records head content.0 content.1
spot (AtLibxlPadding records head content) input = libxl_padded records head content input
spot (InImage outer next) input = judged_next next input >>= carry outer
spot (AtEnd s) input = Passes s input

-- how many words has the PAGE_DATA in hand, from their count on
abbrev pub number_of_words : Spot → ℕ
number_of_words (InImage outer (AtWords o records head n)) = n
number_of_words (InImage outer (AtPages o records head coming stood)) = length stood + length coming
number_of_words _ = 0

-- How many bytes of the part that comes next may have been taken and not written. Of a body it is a piece of 4096 bytes. Of
-- every other part it is all that the part has, and a padding has at most 8.
abbrev pub held_of_next : Next → ℕ
held_of_next AtVersion = 16
held_of_next (AtKind version) = 16
held_of_next (AtBody o records head) = 4096
held_of_next (AtWords o records head n) = 8 * n
held_of_next (AtPages o records head coming stood) = 4096
held_of_next _ = 8

abbrev pub held : Spot → ℕ
held (AtLibxlBody records head) = 4096
held (InImage outer next) = held_of_next next
held (AtEnd s) = 0
held _ = 8

-- how many bytes the part that comes next has at most: a body its whole length
abbrev pub most_of_next : Next → ℕ
most_of_next (AtBody o records head) = head.len
most_of_next next = held_of_next next

abbrev pub most_of_part : Spot → ℕ
most_of_part (AtLibxlBody records head) = head.len
most_of_part (InImage outer next) = most_of_next next
most_of_part here = held here
