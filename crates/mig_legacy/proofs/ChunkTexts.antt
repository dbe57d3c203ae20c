-- Chunks: those that pass are those that are spelled.
use Rattle.mig_legacy.proofs.Common.{◌≡◌, ℕ, ◌≤◌, ◌<◌, Bool, true, false, cond, List, ◌++◌, length, not, Option, Some, None, Ok, Err, refl, sym, ap, subst, ◌∙◌, arith, append_assoc, length-append, [], ◌∷◌, ◌||◌, common_steps, list_any-append, le32, placed, Passes, placed_passes, Found, Chunk, placed_chunk, both_none, neither_some, false≢true, Hvm, LegacyCause, sent, ChunkKind, End, number_causes, kind_numbered, unless_caused, kind_of, IsNumberOf, most_chunks, frames_sent, place_causes, type_form, content_form, chunk_form, judged_as, ◌>>>◌, SpelledAs, Given, first_named, NoneHolds, LegacyChunk, is_end, is_legacy_ended, has_value, image_records, IsLegacyComplete, FollowsLegacy, Test, FormOf, LegacyContent, option_or, begins_then, then_begins, begins_gives, gives_begins, append_named, is_none, none_is, begins_passes, passes_is_spelled, most_frames}
use Rattle.std.specs.FinMap as maps
use Rattle.mig_legacy.proofs.Bodies.{body_says, body_goes}
use Rattle.mig_legacy.proofs.Chunked.{chunk_of}
use Rattle.mig_legacy.proofs.Parts.{not_less, not_most, said_spelled, spelled_said}
use Rattle.mig_legacy.proofs.ChunkNumbers.{numbers_have_kinds}
use Rattle.mig_legacy.proofs.KindNumbers.{kinds_have_numbers}

-- ---- where a chunk may stand

pub record MayStand (chunks : List LegacyChunk) (kind : ChunkKind) : Type 0 where
  pub few : length chunks < most_chunks
  pub complete : kind ≡ End → IsLegacyComplete chunks

paired : (b d : Bool) → (cond b (not d) d ≡ true → ⊥) → b ≡ d
paired true true never = refl
paired true false never = absurd (never refl)
paired false true never = absurd (never refl)
paired false false never = refl

unpaired : (b d : Bool) → cond b (not d) d ≡ true → b ≡ d → ⊥
unpaired true true h same = false≢true h
unpaired true false h same = false≢true (sym same)
unpaired false d h same = false≢true (same ∙ h)

pub end_is : (kind : ChunkKind) → is_end kind ≡ true → kind ≡ End
end_is End h = refl
end_is _ h = absurd (false≢true h)

-- how many frames the chunks leave
frames_are : (chunks : List LegacyChunk) → frames_sent chunks ≡ length (maps.entries (sent Hvm (image_records chunks)).frames)
frames_are chunks = maps.len-entries (sent Hvm (image_records chunks)).frames

fine_stand : (chunks : List LegacyChunk) (kind : ChunkKind) → NoneHolds (place_causes chunks kind) → MayStand chunks kind
fine_stand chunks kind none = record {
  few = not_most most_chunks (length chunks) none.1.0;
  complete = λ is. record {
    paired = paired (has_value 32 chunks) (has_value 33 chunks) (λ alone. none.0 (ap is_end is, alone));
    few = subst (λ n. n ≤ most_frames) (frames_are chunks) (not_less most_frames (frames_sent chunks) (λ many. none.1.1.0 (ap is_end is, many)));
  };
}

stand_fine : (chunks : List LegacyChunk) (kind : ChunkKind) → MayStand chunks kind → NoneHolds (place_causes chunks kind)
stand_fine chunks kind s = (
  λ both. unpaired (has_value 32 chunks) (has_value 33 chunks) both.1 (s.complete (end_is kind both.0)).paired,
  (λ (full : most_chunks ≤ length chunks). (let few = s.few in omega (arith, full, few)), (λ both. over both.1 (s.complete (end_is kind both.0)).few, tt)),
)
  where
    over : most_frames < frames_sent chunks → length (maps.entries (sent Hvm (image_records chunks)).frames) ≤ most_frames → ⊥
    over many few = let same = frames_are chunks in omega (arith, many, few, same)

-- ---- its number

module _ (chunks : List LegacyChunk) (n : ℕ) where
  -- what the table of the type names
  pub type_named : first_named (number_causes n ++ place_causes chunks (kind_numbered n)) ≡ option_or (first_named (number_causes n)) (first_named (place_causes chunks (kind_numbered n)))
  type_named = append_named (number_causes n) (place_causes chunks (kind_numbered n))

  module _ (kind : ChunkKind) where
    numbered_by : (o : Option LegacyCause) (k : ChunkKind) → unless_caused o k ≡ Ok kind → (o ≡ None) × (k ≡ kind)
    numbered_by None k is = (refl, cc)
    numbered_by (Some c) k is = cc

    -- of a chunk that is one no cause stands in its number
    pub number_told : kind_of n ≡ Ok kind → (first_named (number_causes n) ≡ None) × (kind_numbered n ≡ kind)
    unfolding kind_of
    number_told is = numbered_by (first_named (number_causes n)) (kind_numbered n) is

    pub told_number : first_named (number_causes n) ≡ None → kind_numbered n ≡ kind → kind_of n ≡ Ok kind
    unfolding kind_of
    told_number none is = ap (λ o. unless_caused o (kind_numbered n)) none ∙ ap Ok is

  -- where there is none, the cause is named; else the first that stands behind the chunks
  pub number_refused : (c : LegacyCause) → kind_of n ≡ Err c → first_named (number_causes n ++ place_causes chunks (kind_numbered n)) ≡ Some c
  unfolding kind_of
  number_refused c is = type_named ∙ by (first_named (number_causes n)) is
    where
      by : (o : Option LegacyCause) → unless_caused o (kind_numbered n) ≡ Err c → option_or o (first_named (place_causes chunks (kind_numbered n))) ≡ Some c
      by None h = cc
      by (Some d) h = cc

  pub place_named : (kind : ChunkKind) → kind_of n ≡ Ok kind → first_named (number_causes n ++ place_causes chunks (kind_numbered n)) ≡ first_named (place_causes chunks kind)
  place_named kind is =
      let (none, told) = number_told kind is in
      type_named ∙ ap (λ o. option_or o (first_named (place_causes chunks (kind_numbered n)))) none ∙ ap (λ k. first_named (place_causes chunks k)) told

abbrev pub type_rows : List LegacyChunk → List ℕ → List (Test × LegacyCause)
type_rows chunks bytes = number_causes (le32 bytes 0) ++ place_causes chunks (kind_numbered (le32 bytes 0))

abbrev pub kind_in : List ℕ → ChunkKind
kind_in bytes = kind_numbered (le32 bytes 0)

record Numbered (chunks : List LegacyChunk) (number : List ℕ) (kind : ChunkKind) : Type 0 where
  size : length number ≡ 4
  is : IsNumberOf kind (le32 number 0)
  stands : MayStand chunks kind

numbered : (chunks : List LegacyChunk) (number : List ℕ) (kind : ChunkKind) → SpelledAs (type_form chunks) number kind → Numbered chunks number kind
numbered chunks number kind spelled =
    let n = le32 number 0 in
    let (size, none, is) = spelled_said 4 (type_rows chunks) kind_in number kind spelled in
    let both = both_none (first_named (number_causes n)) (first_named (place_causes chunks (kind_numbered n))) (sym (type_named chunks n) ∙ none_is (type_rows chunks number) none) in
    record { size = size; is = kinds_have_numbers n kind (told_number chunks n kind both.0 is); stands = subst (MayStand chunks) is (fine_stand chunks (kind_numbered n) (is_none (place_causes chunks (kind_numbered n)) both.1)) }

number_goes : (chunks : List LegacyChunk) (kind : ChunkKind) (number : List ℕ) → length number ≡ 4 → IsNumberOf kind (le32 number 0) → MayStand chunks kind → SpelledAs (type_form chunks) number kind
number_goes chunks kind number size is stands =
    let n = le32 number 0 in
    let (none, told) = number_told chunks n kind (numbers_have_kinds kind n is) in
    let fine = none_is (place_causes chunks (kind_numbered n)) (stand_fine chunks (kind_numbered n) (subst (MayStand chunks) (sym told) stands)) in
    let all = is_none (type_rows chunks number) (type_named chunks n ∙ neither_some (first_named (number_causes n)) (first_named (place_causes chunks (kind_numbered n))) none fine) in
    subst (SpelledAs (type_form chunks) number) told (said_spelled 4 (type_rows chunks) kind_in number size all)

-- ---- a chunk

module _ (chunks : List LegacyChunk) where
  abbrev told_of : ChunkKind → LegacyContent → FormOf LegacyCause LegacyChunk
  told_of kind content = Given (chunk_of kind content)

  abbrev body_form : ChunkKind → FormOf LegacyCause LegacyChunk
  body_form kind = content_form chunks kind >>> told_of kind

  pub found : (i : List ℕ) (c : LegacyChunk) (rest : List ℕ) → is_legacy_ended chunks ≡ false → judged_as (chunk_form chunks) i ≡ Passes c rest → Found FollowsLegacy chunks i c rest
  unfolding chunk_form
  found i c rest going h =
      let a = begins_then (type_form chunks) body_form i c rest (passes_is_spelled (chunk_form chunks) i c rest h) in
      let (number, whole, spelled) = a.first in
      let n = numbered chunks number a.x spelled in
      let b = begins_then (content_form chunks a.x) (told_of a.x) a.mid c rest a.then in
      let e = begins_gives (chunk_of a.x b.x) c b.mid rest b.then in
      let s = body_says chunks a.x a.mid b.x b.mid b.first in
      let is : Found FollowsLegacy chunks i (chunk_of a.x b.x) rest = record {
        text = number ++ s.bytes;
        whole = whole ∙ ap (λ l. number ++ l) (s.whole ∙ ap (λ l. s.bytes ++ l) e.1) ∙ sym (append_assoc number s.bytes rest);
        some = omega (arith, length-append number s.bytes, n.size);
        follows = record {
          is = record { number = number; body = s.bytes; whole = refl; number_len = n.size; is = n.is; says = s.says };
          fits = s.fits;
          few = n.stands.few;
          not_ended = going;
          complete = n.stands.complete;
        };
      } in
      subst (λ (x : LegacyChunk). Found FollowsLegacy chunks i x rest) e.0 is

  pub chunk_goes : (c : LegacyChunk) (text rest : List ℕ) → FollowsLegacy chunks c text → judged_as (chunk_form chunks) (text ++ rest) ≡ Passes c rest
  unfolding chunk_form
  chunk_goes c text rest f =
      let is = f.is in
      let left = is.body ++ rest in
      ap (judged_as (chunk_form chunks)) (ap (λ l. l ++ rest) is.whole ∙ append_assoc is.number is.body rest)
      ∙ begins_passes (chunk_form chunks) (is.number ++ left) c rest
      (then_begins (type_form chunks) body_form (is.number ++ left) left c.kind c rest (is.number, refl, number_goes chunks c.kind is.number is.number_len is.is (record { few = f.few; complete = f.complete }))
      (then_begins (content_form chunks c.kind) (told_of c.kind) left rest c.content c rest (body_goes chunks c.kind is.body c.content rest is.says f.fits) (gives_begins c rest)))

-- ---- a chunk at its place

pub finds : (chunks : List LegacyChunk) (i : List ℕ) (c : LegacyChunk) (rest : List ℕ) → is_legacy_ended chunks ≡ false → placed_chunk chunks i ≡ Passes c rest → Found FollowsLegacy chunks i c rest
finds chunks i c rest going h = found chunks i c rest going (placed_passes (Chunk (length chunks)) (judged_as (chunk_form chunks) i) c rest h)

pub goes : (chunks : List LegacyChunk) (c : LegacyChunk) (text rest : List ℕ) → FollowsLegacy chunks c text → placed_chunk chunks (text ++ rest) ≡ Passes c rest
goes chunks c text rest f = ap (placed (Chunk (length chunks))) (chunk_goes chunks c text rest f)

pub not_ended : (chunks : List LegacyChunk) (c : LegacyChunk) (text : List ℕ) → FollowsLegacy chunks c text → is_legacy_ended chunks ≡ false
not_ended chunks c text f = f.not_ended

pub ended_more : (chunks : List LegacyChunk) (c : LegacyChunk) → is_legacy_ended chunks ≡ false → is_legacy_ended (chunks ++ c ∷ []) ≡ is_end c.kind
ended_more chunks c going = list_any-append (λ (x : LegacyChunk). is_end x.kind) chunks (c ∷ []) ∙ ap (λ b. b || (is_end c.kind || false)) going ∙ grind (arith, common_steps)
