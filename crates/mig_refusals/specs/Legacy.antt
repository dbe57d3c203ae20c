-- The refusals of a legacy stream: a form of mig_legacy is refused behind a faultless front; and the laws on the tables of causes.
use Rattle.std.specs.Prelude.{◌≡◌, ◌↔◌, ℕ, ◌^◌, ◌<◌, ◌≤◌, true, false, List, ◌++◌, length, slice_index, Some}
use Rattle.std.specs.FinMap as maps
use Rattle.std.specs.Str.{bytes_eq}
use Rattle.mig_refusals.specs.Common.{Spells, RefusedAs, is_ascending, number_of_legacy_cause, ContextFault, Hvm, sent, EmulatorsOf, IsStart, IsTail, FollowsLegacy, LegacyCause, ChunkKind, number_causes}
use Rattle.mig_headers.specs.Contexts.{scan}
use Rattle.mig_headers.specs.FirstCauses.{IsTriedFirst}
use Rattle.mig_headers.specs.declared.legacy_fault.LegacyCause.TheVariants.{BadPageType, WordHigh, BadContext}
use Rattle.mig_headers.specs.declared.legacy_fault.LegacyPlace.{LegacyPlace}
use Rattle.mig_headers.specs.declared.legacy_fault.LegacyPlace.TheVariants as places
use Rattle.mig_pagetypes.specs.LegacyWords.{legacy_type}
use Rattle.mig_legacy.specs.Batches.{fault_of_batch}
use Rattle.mig_legacy.specs.Judged.{toolstack_fault}
use Rattle.mig_legacy.specs.Legacy.{LegacyChunk, LegacyTail, has_value, image_records, is_legacy_ended}
use Rattle.mig_legacy.specs.LegacyForm.{context_fault, frames_sent, is_unpaired, signature, start_causes, place_causes, toolstack_causes, start_form, chunk_form, tail_form, device_form}
use Rattle.mig_refusals.specs.LegacyToolstack.{FieldWrong}
use Rattle.mig_refusals.specs.Libxc.{EntriesTo, EntryHas}

-- ---- what the laws say of tables

-- each table is in the order of the causes' numbers
pub record LegacyCausesAscend : Type 0 where
  pub in_start : (bytes : List ℕ) → is_ascending number_of_legacy_cause (start_causes bytes) ≡ true
  pub in_type : (chunks : List LegacyChunk) (kind : ChunkKind) (n : ℕ) → is_ascending number_of_legacy_cause (number_causes n ++ place_causes chunks kind) ≡ true
  pub in_toolstack : (e : EmulatorsOf) (body : List ℕ) → is_ascending number_of_legacy_cause (toolstack_causes e body) ≡ true

-- ---- causes that are computed, in words

-- the words of a batch: at the word of this place
pub data WordsHave (ws : List ℕ) : LegacyCause → Type 0 where
  reserved_type : (place : ℕ) → place < length ws → 5 ≤ legacy_type (slice_index ws place) → legacy_type (slice_index ws place) ≤ 8 → WordsHave ws (BadPageType place (legacy_type (slice_index ws place)))
  not_zero : (place : ℕ) → place < length ws → 2 ^ 32 ≤ slice_index ws place → WordsHave ws (WordHigh place)

-- the place of the word that a cause names
abbrev pub word_place : LegacyCause → ℕ
word_place (BadPageType place type) = place
word_place (WordHigh place) = place
word_place _ = 0

-- an HVM context: its entries stand whole up to one in which this is wrong
pub data LegacyContextHas (body : List ℕ) : LegacyCause → Type 0 where
  wrong_entry : (offset : ℕ) (fault : ContextFault) → EntriesTo body offset → EntryHas body offset fault → LegacyContextHas body (BadContext fault)

-- The cause of a batch is that of the least number, at its least word. That of a toolstack is its first wrong field,
-- and that of a context its first wrong entry.
pub record ComputedCausesStand : Type 0 where
  pub batch : (ws : List ℕ) (cause : LegacyCause) → (fault_of_batch ws ≡ Some cause) ↔ IsTriedFirst number_of_legacy_cause word_place (WordsHave ws) cause
  pub toolstack : (body : List ℕ) (offset : ℕ) → (toolstack_fault body ≡ Some offset) ↔ FieldWrong body offset
  pub context : (body : List ℕ) (cause : LegacyCause) → (context_fault (scan body) ≡ Some cause) ↔ LegacyContextHas body cause

-- what else is computed in conditions: one of two values is told and the other isn't, how many frames the chunks leave, and
-- whether bytes are the signature
pub record LegacyTestsSay : Type 0 where
  pub unpaired : (chunks : List LegacyChunk) → (is_unpaired chunks ≡ true) ↔ (has_value 32 chunks ≡ has_value 33 chunks → ⊥)
  pub frames : (chunks : List LegacyChunk) → frames_sent chunks ≡ length (maps.entries (sent Hvm (image_records chunks)).frames)
  pub signature_is : (bytes : List ℕ) → (bytes_eq bytes signature ≡ true) ↔ (bytes ≡ signature)

-- ---- refusals

-- Behind a faultless front, as a legacy stream spells it, what comes next is refused at this place. It is the start;
-- behind that and so many chunks the next one; behind all chunks the tail; or behind the tail a device model's record,
-- where any byte follows.
pub data RefusedLegacyAt (input : List ℕ) (cause : LegacyCause) (rest : List ℕ) : LegacyPlace → Type 0 where
  in_start : RefusedAs start_form input cause rest → RefusedLegacyAt input cause rest places.Start
  in_chunk : (start bytes left : List ℕ) (chunks : List LegacyChunk) → input ≡ start ++ (bytes ++ left) → IsStart start → Spells FollowsLegacy bytes chunks → is_legacy_ended chunks ≡ false → RefusedAs (chunk_form chunks) left cause rest
      → RefusedLegacyAt input cause rest (places.Chunk (length chunks))
  in_tail : (start bytes left : List ℕ) (chunks : List LegacyChunk) → input ≡ start ++ (bytes ++ left) → IsStart start → Spells FollowsLegacy bytes chunks → is_legacy_ended chunks ≡ true → RefusedAs tail_form left cause rest
      → RefusedLegacyAt input cause rest places.Tail
  in_device : (start bytes tail left : List ℕ) (chunks : List LegacyChunk) (t : LegacyTail) → input ≡ start ++ (bytes ++ (tail ++ left)) → IsStart start → Spells FollowsLegacy bytes chunks → is_legacy_ended chunks ≡ true → IsTail tail t
      → 0 < length left → RefusedAs device_form left cause rest → RefusedLegacyAt input cause rest places.Device

abbrev pub RefusedLegacy : List ℕ → LegacyPlace → LegacyCause → List ℕ → Type 0
RefusedLegacy input place cause rest = RefusedLegacyAt input cause rest place
