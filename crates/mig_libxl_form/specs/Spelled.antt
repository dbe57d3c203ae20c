-- The spelling of a stream of either form, in the words of the format (libxl migration stream, "Header" and "Records").
use Rattle.std.specs.Prelude.{◌≡◌, ◌≤◌, ◌<◌, ◌^◌, ℕ, ⊤, true, false, Bool, List, [], ◌++◌, length, Some, None}
use Rattle.mig_libxl_form.specs.Common.{code_number, EmulatorContext, EmulatorPairs, le32, Spells, most_body, IsLibxlHeader, Pair, Pv, GuestOf, PartKey, most_pairs, SpellPairs, most_records, ImageOf}
use Rattle.mig_records.specs.Records.{IsRecord}
use Rattle.mig_restore_form.specs.Spelled.{IsImage}
use Rattle.mig_libxl_form.specs.LibxlTypes.{libxl_end_type, libxc_context_type, emulator_pairs_type, emulator_context_type}
use Rattle.mig_libxl_form.specs.Content.{LibxlRecord, LibxlContent}
use Rattle.mig_libxl_form.specs.Among.{is_libxl_ended, has_emulator, image_among}
use Rattle.mig_libxl_form.specs.Content.LibxlContent.{Nothing, Image, Pairs, Context}
use Rattle.mig_libxl_form.specs.Emulators.{emulators_of, spelled_with}
use Rattle.mig_libxl_form.specs.Stream.{StreamOf, guest_of, image_of_stream}
use Rattle.mig_libxl_form.specs.Stream.StreamOf.{Bare, Wrapped}

-- the front of an emulator's body: its id, which is below 3, and its index, which is below 256
pub record IsFront (code : ℕ) (front : List ℕ) (key : PartKey) : Type 0 where
  pub len : length front ≡ 8
  pub code_is : key.code ≡ code
  pub id : le32 front 0 ≡ key.key1
  pub index : le32 front 4 ≡ key.key2
  pub known : key.key1 < 3
  pub small : key.key2 < 256

-- a body of this type, and what it says
pub data HasLibxlContent : ℕ → List ℕ → LibxlContent → Type 0 where
  optional : (type : ℕ) (body : List ℕ) → 2 ^ 31 ≤ type → HasLibxlContent type body Nothing
  ends : HasLibxlContent libxl_end_type [] Nothing
  pairs : (front text : List ℕ) (key : PartKey) (ps : List Pair) → IsFront (code_number EmulatorPairs) front key → SpellPairs text ps → HasLibxlContent emulator_pairs_type (front ++ text) (Pairs key ps)
  context : (front bytes : List ℕ) (key : PartKey) → IsFront (code_number EmulatorContext) front key → HasLibxlContent emulator_context_type (front ++ bytes) (Context key bytes)

-- the bytes of a record: LIBXC_CONTEXT has no body, and an image follows it; of any other, its head, body and padding
pub data IsLibxlRecord : LibxlRecord → List ℕ → Type 0 where
  image : (head text : List ℕ) (i : ImageOf) → IsRecord libxc_context_type [] head → IsImage text i.opening i.records [] → IsLibxlRecord (record { type = libxc_context_type; content = Image i }) (head ++ text)
  body : (type : ℕ) (body bytes : List ℕ) (c : LibxlContent) → IsRecord type body bytes → length body ≤ most_body → HasLibxlContent type body c → IsLibxlRecord (record { type = type; content = c }) bytes

-- no emulator has more pairs than it may have, once these are added
abbrev pub EmulatorsFit : List LibxlRecord → LibxlContent → Type 0
EmulatorsFit records (Pairs key ps) = spelled_with (emulators_of records) key ps ≤ most_pairs
EmulatorsFit records _ = ⊤

-- what END asks: an image, and of a PV guest no emulators
pub record IsLibxlComplete (records : List LibxlRecord) : Type 0 where
  pub image : ImageOf
  pub there : image_among records ≡ Some image
  pub emulators : image.opening.kind ≡ Pv → has_emulator records ≡ false

-- a record that may come behind these records
pub record FollowsLibxl (records : List LibxlRecord) (r : LibxlRecord) (bytes : List ℕ) : Type 0 where
  pub is : IsLibxlRecord r bytes
  pub fits : EmulatorsFit records r.content
  pub few : length records < most_records
  pub not_ended : is_libxl_ended records ≡ false
  pub one_image : r.type ≡ libxc_context_type → image_among records ≡ None
  pub complete : r.type ≡ libxl_end_type → IsLibxlComplete records

-- a libxl stream without a fault: its header, records, the last of them END, and then what follows
pub record IsWrapped (input : List ℕ) (records : List LibxlRecord) (rest : List ℕ) : Type 0 where
  pub header : List ℕ
  pub legacy : Bool
  pub bytes : List ℕ
  pub whole : input ≡ header ++ (bytes ++ rest)
  pub is_header : IsLibxlHeader header legacy
  pub spelled : Spells FollowsLibxl bytes records
  pub ended : is_libxl_ended records ≡ true

-- a stream of either form
abbrev pub IsStream : List ℕ → StreamOf → List ℕ → Type 0
IsStream input (Bare i) rest = IsImage input i.opening i.records rest
IsStream input (Wrapped records) rest = IsWrapped input records rest

-- a front of the input is an accepted stream with this guest, and rest follows it
pub record AcceptedStream (input : List ℕ) (guest : GuestOf) (rest : List ℕ) : Type 0 where
  pub stream : StreamOf
  pub image : ImageOf
  pub spelled : IsStream input stream rest
  pub image_is : image_of_stream stream ≡ Some image
  pub means : guest ≡ guest_of image stream
