-- What is noted of frames goes on with the parts of a legacy stream.
use Rattle.mig_legacy.proofs.Common.{◌≡◌, ◌≢◌, ℕ, List, [], ◌∷◌, ◌++◌, Option, Some, None, Result, Ok, refl, sym, ap, subst, ◌∙◌, Judged, ◌>>=◌, placed, Passes, AgreesWithJudging, then_reads, Stop, LegacyCause, Hvm, GuestOf, FrameMap, put_entries_by, put_entry, each, entry_at, with_places, sent, sent_kind, page_data_words, judged_as, start_form, tail_form, Start, Tail, Device, words_form, batch_form, content_form, device_at, device_form, ChunkKind, End, Batch, LegacyContent, Nothing, Frames, Value, Clock, Pairs, LegacyChunk, image_records, put_in_guest, passes_is_spelled, placed_passes, same_passes, FormOf, SpelledAs, nothing, one_part, spelled_passes, VcpuMap, Tsc, LastCheckpoint, Toolstack, Param, NotesChunks, put_chunk_frames, NotesOn}
use Rattle.std.specs.FinMap as maps
use Rattle.mig_bytes.proofs.Fronts.{TakesFronts}
use Rattle.mig_bytes_form.specs.Form.FormOf.{Gives, Part}
use Rattle.mig_legacy.proofs.Batches.{batch_is, behind_words}
use Rattle.mig_legacy.proofs.BatchFrames.{cut_read, same_entries}
use Rattle.mig_legacy.proofs.Chunked.{sent_more}
use Rattle.mig_restore.proofs.Noted.{still, then_noted, weaker}

-- ---- a form takes a front, and says what its ends say

pub form_front : {C X : Type 0} (f : FormOf C X) → TakesFronts (judged_as f)
form_front f i x rest h =
    let (bytes, whole, spelled) = passes_is_spelled f i x rest h in
    record { front = bytes; whole = whole; again = λ more. spelled_passes f bytes x more spelled }

-- what a part leaves is a tail of its input
abbrev Splits : {C X : Type 0} → (List ℕ → Judged C X) → Type 0
Splits {C} {X} f = (i : List ℕ) (x : X) (rest : List ℕ) → f i ≡ Passes x rest → (front : List ℕ) × (i ≡ front ++ rest)

form_splits : {C X : Type 0} (f : FormOf C X) → Splits (judged_as f)
form_splits f i x rest h = let (bytes, whole, spelled) = passes_is_spelled f i x rest h in (bytes, whole)

-- the device model's record, or the end of the input
device_splits : Splits device_at
unfolding device_at
device_splits [] x rest h = ([], (same_passes _ _ _ _ h).1)
device_splits (b ∷ i) x rest h = form_splits device_form (b ∷ i) x rest h

placed_splits : {P C X : Type 0} (place : P) (f : List ℕ → Judged C X) → Splits f → Splits (λ i. placed place (f i))
placed_splits place f splits i x rest h = splits i x rest (placed_passes place (f i) x rest h)

-- each part of a stream but its chunks
pub start_splits : Splits (λ i. placed Start (judged_as start_form i))
start_splits = placed_splits Start (judged_as start_form) (form_splits start_form)

pub tail_splits : Splits (λ i. placed Tail (judged_as tail_form i))
tail_splits = placed_splits Tail (judged_as tail_form) (form_splits tail_form)

pub placed_device_splits : Splits (λ i. placed Device (device_at i))
placed_device_splits = placed_splits Device device_at device_splits

abbrev Says : {C X : Type 0} → (X → Type 0) → FormOf C X → Type 0
Says P (Gives x) = P x
Says P (Part n truncated rows next) = (bytes : List ℕ) → Says P (next bytes)

says_so : {C X : Type 0} (P : X → Type 0) (f : FormOf C X) (bytes : List ℕ) (x : X) → Says P f → SpelledAs f bytes x → P x
says_so P _ _ x says (nothing _) = says
says_so P _ _ x says (one_part n truncated rows next bytes more _ size fine behind) = says_so P (next bytes) more x (says bytes) behind

-- ---- what a chunk makes of frames

abbrev Stays : LegacyContent → Type 0
Stays c = (frames : FrameMap) → put_chunk_frames c frames ≡ frames

content_says : (chunks : List LegacyChunk) (kind : ChunkKind) → ((n : ℕ) → kind ≢ Batch n) → Says Stays (content_form chunks kind)
content_says chunks End other = λ frames. refl
content_says chunks (Batch n) other = absurd (other n refl)
content_says chunks VcpuMap other = λ max bytes frames. refl
content_says chunks Tsc other = λ bytes frames. refl
content_says chunks LastCheckpoint other = λ frames. refl
content_says chunks Toolstack other = λ front bytes frames. refl
content_says chunks (Param index) other = λ bytes frames. refl

-- no chunk but a batch makes anything of them
pub content_stays : (chunks : List LegacyChunk) (kind : ChunkKind) → ((n : ℕ) → kind ≢ Batch n) → (i rest : List ℕ) (c : LegacyContent) → judged_as (content_form chunks kind) i ≡ Passes c rest → (frames : FrameMap) → put_chunk_frames c frames ≡ frames
content_stays chunks kind other i rest c h =
    let (bytes, whole, spelled) = passes_is_spelled (content_form chunks kind) i c rest h in
    says_so Stays (content_form chunks kind) bytes c (content_says chunks kind other) spelled

chunk_puts : (g : GuestOf) (c : LegacyContent) → g.kind ≡ Hvm → (put_in_guest put_entry g c).frames ≡ put_chunk_frames c g.frames
chunk_puts g Nothing hvm = refl
chunk_puts g (Frames es) hvm = ap (λ k. put_entries_by put_entry k g.frames es) hvm
chunk_puts g (Value index value) hvm = refl
chunk_puts g (Clock bytes) hvm = refl
chunk_puts g (Pairs ps) hvm = refl

pub chunks_sent : (chunks : List LegacyChunk) (c : LegacyChunk) → (sent Hvm (image_records (chunks ++ c ∷ []))).frames ≡ put_chunk_frames c.content (sent Hvm (image_records chunks)).frames
chunks_sent chunks c = ap (λ (g : GuestOf). g.frames) (sent_more chunks c) ∙ chunk_puts (sent Hvm (image_records chunks)) c.content (sent_kind Hvm (image_records chunks))

-- ---- what is noted

module _ {K : Type 0} (notes : K → List ℕ → Option (List ℕ) → FrameMap → Type 0) (read_on : (keeper : K) (all front rest : List ℕ) (frames : FrameMap) → notes keeper all (Some (front ++ rest)) frames → notes keeper all (Some rest) frames) where
  -- the words of a batch, and then its pages
  pub batch_noted : {V : Type 0} (old new : K) (g : GuestOf) (n : ℕ) → g.kind ≡ Hvm → g.top ≡ 0 → (a b c : Option (List ℕ)) (words : V) (items : V → List ℕ) (list : List ℕ) → list ≡ page_data_words (items words)
      → AgreesWithJudging (λ v ws. ws ≡ items v) a b (judged_as (words_form n)) (Ok words) → AgreesWithJudging {X = Unit {0}} (λ _ es. NotesOn notes old new b c (λ frames. put_entries_by put_entry g.kind frames es)) b c (each (entry_at g.kind g.top) (with_places 0 list)) (Ok tt)
      → AgreesWithJudging {X = Unit {0}} (λ _ said. NotesOn notes old new a c (put_chunk_frames said)) a c (judged_as (batch_form n)) (Ok tt)
  batch_noted old new g n hvm zero a b c words items list is told noted =
      then_noted notes read_on (λ v ws. ws ≡ items v) old new a b c (judged_as (words_form n)) (judged_as (batch_form n)) behind_words put_chunk_frames words (Ok tt) (form_front (words_form n)) (batch_is n) told
      (λ ws e.
      cut_read (λ (_ : Unit {0}) es. NotesOn notes old new b c (λ frames. put_entries_by put_entry g.kind frames es)) (λ (_ : Unit {0}) said. NotesOn notes old new b c (put_chunk_frames said)) (each (entry_at Hvm 0) (with_places 0 (page_data_words ws))) Frames b c tt tt
      (subst (λ f. AgreesWithJudging {X = Unit {0}} (λ _ es. NotesOn notes old new b c (λ frames. put_entries_by put_entry g.kind frames es)) b c f (Ok tt)) (same_entries g.kind g.top ws list hvm zero (is ∙ ap page_data_words (sym e))) noted)
      (λ es h all frames before. subst (λ k. notes new all c (put_entries_by put_entry k frames es)) hvm (h all frames before)))

  -- any other body
  pub other_noted : {X : Type 0} (R : X → LegacyContent → Type 0) (k : K) (a b : Option (List ℕ)) (chunks : List LegacyChunk) (kind : ChunkKind) (r : Result X (Stop LegacyCause)) → ((n : ℕ) → kind ≢ Batch n)
      → AgreesWithJudging R a b (judged_as (content_form chunks kind)) r → AgreesWithJudging {X = X} (λ _ c. NotesOn notes k k a b (put_chunk_frames c)) a b (judged_as (content_form chunks kind)) r
  other_noted R k a b chunks kind r other read = still notes read_on R k a b (judged_as (content_form chunks kind)) put_chunk_frames r (form_front (content_form chunks kind)) (content_stays chunks kind other) read

  -- a part before the chunks
  carried_on : {C X Y : Type 0} (R : X → Y → Type 0) (k : K) (i : List ℕ) (b : Option (List ℕ)) (f : List ℕ → Judged C Y) (x : X) → Splits f → AgreesWithJudging R (Some i) b f (Ok x) → (all : List ℕ) (frames : FrameMap) → notes k all (Some i) frames → notes k all b frames
  carried_on R k i b f x splits (y, rest, is, left, told) all frames noted =
      let (front, whole) = splits i y rest is in
      subst (λ (o : Option (List ℕ)). notes k all o frames) (sym left) (read_on k all front rest frames (subst (λ l. notes k all (Some l) frames) whole noted))

  pub before_chunks : {C X Y Z V : Type 0} (R : X → Y → Type 0) (old new : K) (a b c : Option (List ℕ)) (f : List ℕ → Judged C Y) (g : List ℕ → Judged C Z) (k : Y × List ℕ → Judged C Z) (chunks : Z → List LegacyChunk) (x : X) (r : Result V (Stop C))
      → Splits f → ((i : List ℕ) → g i ≡ (f i >>= k)) → AgreesWithJudging R a b f (Ok x) → ((y : Y) → R x y → AgreesWithJudging {X = V} (λ _ z. NotesChunks notes old new b c (chunks z)) b c (λ i. k (y, i)) r)
      → AgreesWithJudging {X = V} (λ _ z. NotesChunks notes old new a c (chunks z)) a c g r
  before_chunks R old new None b c f g k chunks x r fronts same first next = tt
  before_chunks {V = V} R old new (Some i) b c f g k chunks x r fronts same first next =
      then_reads R (λ (_ : V) z. NotesChunks notes old new (Some i) c (chunks z)) (Some i) b c f g k x r same first
      (λ y told. weaker (λ (_ : V) z. NotesChunks notes old new b c (chunks z)) (λ (_ : V) z. NotesChunks notes old new (Some i) c (chunks z)) (λ _ z h all noted. h all (carried_on R old i b f x fronts first all maps.empty noted)) b c (λ j. k (y, j)) r (next y told))

  -- a part behind the chunks, and what follows it
  pub behind_chunks_noted : {C X Y Z V : Type 0} (R : X → Y → Type 0) (old new : K) (a b c d : Option (List ℕ)) (noted : List LegacyChunk) (f : List ℕ → Judged C Y) (g : List ℕ → Judged C Z) (k : Y × List ℕ → Judged C Z) (Q : V → Z → Type 0) (x : X) (r : Result V (Stop C))
      → Splits f → ((i : List ℕ) → g i ≡ (f i >>= k)) → NotesChunks notes old new a b noted → AgreesWithJudging R b c f (Ok x) → ((y : Y) → R x y → NotesChunks notes old new a c noted → AgreesWithJudging Q c d (λ i. k (y, i)) r) → AgreesWithJudging Q b d g r
  behind_chunks_noted R old new a None c d noted f g k Q x r fronts same before first next = tt
  behind_chunks_noted R old new a (Some i) c d noted f g k Q x r fronts same before first next =
      then_reads R Q (Some i) c d f g k x r same first (λ y told. next y told (λ all none. carried_on R new i c f x fronts first all _ (before all none)))
