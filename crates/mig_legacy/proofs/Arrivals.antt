-- The chunks of a legacy stream that the reader has behind it.
use Rattle.mig_legacy.proofs.Common.{◌≡◌, ℕ, List, [], ◌∷◌, ◌++◌, Bool, true, false, length, Option, Result, Ok, Err, sym, subst, ap, ◌∙◌, placed_fine, placed_stops, AgreesWithJudging, stop_at, Stop, LegacyCause, Chunk, FrameMap, judged_as, chunk_form, LegacyChunk, is_end, is_legacy_ended, IsLegacySeen, FollowsLegacy, placed_chunk, chunks_at, ChunksSeen, sent, Hvm, image_records, any_stop, weakened, both_told, NotesOn, NotesChunks, put_chunk_frames}
use Rattle.mig_bytes.proofs.Arrivals as fronts
use Rattle.mig_legacy.proofs.ChunkTexts.{finds, ended_more}
use Rattle.mig_legacy.proofs.Noted.{chunks_sent}

abbrev is_last : LegacyChunk → Bool
is_last c = is_end c.kind

-- what the reader keeps between two chunks: of the chunks, what notes frames, and what is left in the source
pub record State (K : Type 0) : Type 0 where
  pub seen : ChunksSeen
  pub keeper : K
  pub left : Option (List ℕ)

abbrev pub state : {K : Type 0} → ChunksSeen → K → Option (List ℕ) → State K
state seen keeper left = record { seen = seen; keeper = keeper; left = left }

pub record Keeps {K : Type 0} (kept : FrameMap → FrameMap) (notes : K → List ℕ → Option (List ℕ) → FrameMap → Type 0) (before : K) (first : Option (List ℕ)) (s : State K) (chunks : List LegacyChunk) : Type 0 where
  pub seen : IsLegacySeen kept s.seen chunks
  pub noted : NotesChunks notes before s.keeper first s.left chunks

module _ {K : Type 0} (kept : FrameMap → FrameMap) (notes : K → List ℕ → Option (List ℕ) → FrameMap → Type 0) (before : K) (first : Option (List ℕ)) where
  abbrev KeepsNow : State K → List LegacyChunk → Type 0
  KeepsNow s chunks = Keeps kept notes before first s chunks

  abbrev ArrivedAt : Option (List ℕ) → State K → Type 0
  ArrivedAt now s = fronts.Arrived is_legacy_ended placed_chunk KeepsNow first now s

  -- what the reader knows between two chunks
  abbrev pub Arrived : Option (List ℕ) → ChunksSeen → K → Type 0
  Arrived now seen keeper = ArrivedAt now (state seen keeper now)

  pub arrived_first : (seen : ChunksSeen) → IsLegacySeen kept seen [] → is_legacy_ended [] ≡ false → Arrived first seen before
  unfolding sent
  arrived_first seen is going = fronts.arrived_first is_legacy_ended placed_chunk KeepsNow first (state seen before first) (record { seen = is; noted = λ all none. none }) going

  abbrev pub Told : ChunksSeen → List LegacyChunk → Bool → LegacyChunk → Type 0
  Told new chunks over c = IsLegacySeen kept new (chunks ++ c ∷ []) × (over ≡ is_last c)

  -- the clauses of the reader of a chunk
  abbrev pub Tells : ChunksSeen → ChunksSeen → Option (List ℕ) → Option (List ℕ) → Result Bool (Stop LegacyCause) → Type 0
  Tells seen seen' b c r = (chunks : List LegacyChunk) → IsLegacySeen kept seen chunks → AgreesWithJudging (Told seen' chunks) b c (judged_as (chunk_form chunks)) r

  abbrev pub TellsNotes : State K → State K → Option (List ℕ) → Option (List ℕ) → Result Bool (Stop LegacyCause) → Type 0
  TellsNotes old new b c r = (chunks : List LegacyChunk) → IsLegacySeen kept old.seen chunks
      → AgreesWithJudging {X = Bool} (λ _ c. NotesOn notes old.keeper new.keeper old.left new.left (put_chunk_frames c.content)) b c (judged_as (chunk_form chunks)) r

  module _ (b c : Option (List ℕ)) (old new : State K) (h : ArrivedAt b old) where
    tells_on : (over : Bool) → Tells old.seen new.seen b c (Ok over) → TellsNotes old new b c (Ok over) → fronts.Tells is_legacy_ended placed_chunk KeepsNow is_last old new b c (Ok over)
    tells_on over told noted chunks keeps =
        placed_fine (λ over x. KeepsNow new (chunks ++ x ∷ []) × (over ≡ is_last x)) (Chunk (length chunks)) b c (judged_as (chunk_form chunks)) over
        (weakened (λ over x. Told new.seen chunks over x × NotesOn notes old.keeper new.keeper old.left new.left (put_chunk_frames x.content)) (λ over x. KeepsNow new (chunks ++ x ∷ []) × (over ≡ is_last x)) b c (judged_as (chunk_form chunks)) over over
        (λ x t. (record { seen = t.0.0; noted = λ all none. subst (λ m. notes new.keeper all new.left m) (sym (chunks_sent chunks x)) (t.1 all (sent Hvm (image_records chunks)).frames (keeps.noted all none)) }, t.0.1))
        (both_told (Told new.seen chunks) (λ (_ : Bool) x. NotesOn notes old.keeper new.keeper old.left new.left (put_chunk_frames x.content)) b c (judged_as (chunk_form chunks)) over over (told chunks keeps.seen) (noted chunks keeps.seen)))

    pub arrived_next : (over : Bool) → over ≡ false → Tells old.seen new.seen b c (Ok over) → TellsNotes old new b c (Ok over) → ArrivedAt c new
    arrived_next over still told noted = fronts.arrived_next is_legacy_ended placed_chunk KeepsNow is_last ended_more first b c old new over still h (tells_on over told noted)

    ended : (over : Bool) → over ≡ true → Tells old.seen new.seen b c (Ok over) → TellsNotes old new b c (Ok over) → AgreesWithJudging KeepsNow first c chunks_at (Ok new)
    ended over is_over told noted = fronts.arrived_end is_legacy_ended placed_chunk KeepsNow is_last ended_more FollowsLegacy finds first b c old new over is_over h (tells_on over told noted)

    pub arrived_end : (over : Bool) → over ≡ true → Tells old.seen new.seen b c (Ok over) → TellsNotes old new b c (Ok over) → AgreesWithJudging {X = ChunksSeen} (IsLegacySeen kept) first c chunks_at (Ok new.seen)
    arrived_end over is_over told noted = weakened KeepsNow (IsLegacySeen kept) first c chunks_at new new.seen (λ chunks keeps. keeps.seen) (ended over is_over told noted)

    pub arrived_noted : (over : Bool) → over ≡ true → Tells old.seen new.seen b c (Ok over) → TellsNotes old new b c (Ok over) → AgreesWithJudging {X = ChunksSeen} (λ _ chunks. NotesChunks notes before new.keeper first new.left chunks) first c chunks_at (Ok new.seen)
    arrived_noted over is_over told noted = weakened KeepsNow (λ (_ : ChunksSeen) chunks. NotesChunks notes before new.keeper first new.left chunks) first c chunks_at new new.seen (λ chunks keeps. keeps.noted) (ended over is_over told noted)

    pub arrived_stopped : (e : Stop LegacyCause) (n : ℕ) → n ≡ old.seen.chunks → Tells old.seen new.seen b c (Err e) → AgreesWithJudging {X = ChunksSeen} (IsLegacySeen kept) first c chunks_at (Err (stop_at (Chunk n) e))
    arrived_stopped e n count told =
        any_stop KeepsNow (IsLegacySeen kept) first c chunks_at (stop_at (Chunk n) e)
        (fronts.arrived_stopped is_legacy_ended placed_chunk KeepsNow is_last ended_more FollowsLegacy finds first b c old new (stop_at (Chunk n) e) h
        (λ chunks keeps. placed_stops (λ over x. KeepsNow new (chunks ++ x ∷ []) × (over ≡ is_last x)) (Chunk (length chunks)) b c (judged_as (chunk_form chunks)) e (stop_at (Chunk n) e) (ap (λ m. stop_at (Chunk m) e) (count ∙ keeps.seen.count))
        (any_stop (Told new.seen chunks) (λ over x. KeepsNow new (chunks ++ x ∷ []) × (over ≡ is_last x)) b c (judged_as (chunk_form chunks)) e (told chunks keeps.seen))))
