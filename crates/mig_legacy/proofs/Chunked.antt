-- A chunk as the reader takes it: its type, its body, and what was kept once it is counted.
use Rattle.std.proofs.Math.Bool.{or-false}
use Rattle.mig_legacy.proofs.Common.{◌≡◌, ℕ, ◌+◌, List, [], ◌∷◌, ◌++◌, refl, sym, ap, ◌∙◌, length-append, ◌||◌, flat_map-append, list_any-append, fold-append, Judged, ◌>>=◌, Passes, Hvm, Kind, LegacyCause, FrameEntry, FrameMap, GuestOf, EntryStep, kept_guest, put_entry, sent, put_record, empty_guest, put_libxl_content, no_emulators, emulators_of, judged_as, ◌>>>◌, Given, type_form, content_form, chunk_form, LegacyContent, Nothing, Frames, Value, Clock, Pairs, LegacyChunk, is_value_of, has_value, records_in, pair_records, image_records, store_records, put_in_guest, put_in_emulators, IsLegacySeen, TakesLegacy, ChunkKind, ChunksSeen, then_is, then_judged}
use Rattle.mig_restore.proofs.Kept.{content_on}
use Rattle.mig_restore_form.specs.Record.Content.{Frames as SentFrames}
use Rattle.std.proofs.Common.{fold, append-nil}
use Rattle.std.specs.FinMap as maps

abbrev pub chunk_of : ChunkKind → LegacyContent → LegacyChunk
chunk_of kind content = record { kind = kind; content = content }

-- what stands behind the type
abbrev pub behind_kind : List LegacyChunk → ChunkKind × List ℕ → Judged LegacyCause LegacyChunk
behind_kind chunks kind = judged_as (content_form chunks kind.0) kind.1 >>= λ content. Passes (chunk_of kind.0 content.0) content.1

pub begins : (chunks : List LegacyChunk) (i : List ℕ) → judged_as (chunk_form chunks) i ≡ (judged_as (type_form chunks) i >>= behind_kind chunks)
unfolding chunk_form judged_as
begins chunks i =
    then_is (type_form chunks) (λ kind. content_form chunks kind >>> λ content. Given (chunk_of kind content)) i (judged_as (type_form chunks) i) (behind_kind chunks) refl
    (λ kind mid. then_judged (λ content. Given (chunk_of kind content)) (content_form chunks kind) mid)

-- the type that was taken is the one that stands there
pub goes_behind : (chunks : List LegacyChunk) (kind taken : ChunkKind) → kind ≡ taken → (i : List ℕ) → behind_kind chunks (kind, i) ≡ (judged_as (content_form chunks taken) i >>= λ content. Passes (chunk_of taken content.0) content.1)
goes_behind chunks kind taken is i = ap (λ k. behind_kind chunks (k, i)) is

-- ---- with one chunk more

image_more : (chunks : List LegacyChunk) (c : LegacyChunk) → image_records (chunks ++ c ∷ []) ≡ image_records chunks ++ records_in c.content
image_more chunks c = flat_map-append (λ (x : LegacyChunk). records_in x.content) chunks (c ∷ []) ∙ ap (λ l. image_records chunks ++ l) (append-nil (records_in c.content))

store_more : (chunks : List LegacyChunk) (c : LegacyChunk) → store_records (chunks ++ c ∷ []) ≡ store_records chunks ++ pair_records c.content
store_more chunks c = flat_map-append (λ (x : LegacyChunk). pair_records x.content) chunks (c ∷ []) ∙ ap (λ l. store_records chunks ++ l) (append-nil (pair_records c.content))

-- the guest that the chunks send, and the emulators that they tell
pub sent_more : (chunks : List LegacyChunk) (c : LegacyChunk) → sent Hvm (image_records (chunks ++ c ∷ [])) ≡ put_in_guest put_entry (sent Hvm (image_records chunks)) c.content
unfolding sent
sent_more chunks c = ap (fold put_record (empty_guest Hvm)) (image_more chunks c) ∙ fold-append put_record (empty_guest Hvm) (image_records chunks) (records_in c.content)

pub told_more : (chunks : List LegacyChunk) (c : LegacyChunk) → emulators_of (store_records (chunks ++ c ∷ [])) ≡ put_in_emulators (emulators_of (store_records chunks)) c.content
unfolding emulators_of
told_more chunks c =
    ap (fold (λ x r. put_libxl_content x r.content) no_emulators) (store_more chunks c) ∙ fold-append (λ x r. put_libxl_content x r.content) no_emulators (store_records chunks) (pair_records c.content)

value_more : (index : ℕ) (chunks : List LegacyChunk) (c : LegacyChunk) → has_value index (chunks ++ c ∷ []) ≡ (has_value index chunks || is_value_of index c.kind)
value_more index chunks c = list_any-append (λ (x : LegacyChunk). is_value_of index x.kind) chunks (c ∷ []) ∙ ap (λ b. has_value index chunks || b) (or-false (is_value_of index c.kind))

-- what was kept, once the chunk is counted
pub record Counts (mid new : ChunksSeen) (kind : ChunkKind) : Type 0 where
  pub guest : new.guest ≡ mid.guest
  pub emulators : new.emulators ≡ mid.emulators
  pub chunks : new.chunks ≡ mid.chunks + 1
  pub requests : new.requests ≡ (mid.requests || is_value_of 32 kind)
  pub buffered : new.buffered ≡ (mid.buffered || is_value_of 33 kind)

module _ (kept : FrameMap → FrameMap) (put : EntryStep) (entry : (kind : Kind) (frames : FrameMap) (e : FrameEntry) → put kind (kept frames) e ≡ kept (put_entry kind frames e)) (same_count : (frames : FrameMap) → maps.len (kept frames) ≡ maps.len frames) where
  -- what is kept of a guest goes on as the guest does
  in_guest_on : (g : GuestOf) (c : LegacyContent) → put_in_guest put (kept_guest kept g) c ≡ kept_guest kept (put_in_guest put_entry g c)
  in_guest_on g Nothing = refl
  in_guest_on g (Frames es) = content_on kept put entry g (SentFrames es)
  in_guest_on g (Value index value) = refl
  in_guest_on g (Clock bytes) = refl
  in_guest_on g (Pairs ps) = refl

  pub seen_more : (old mid new : ChunksSeen) (chunks : List LegacyChunk) (kind : ChunkKind) (content : LegacyContent) → IsLegacySeen kept old chunks → TakesLegacy put old mid content → Counts mid new kind → IsLegacySeen kept new (chunks ++ chunk_of kind content ∷ [])
  seen_more old mid new chunks kind content seen takes counts =
      let c = chunk_of kind content in
      let guest = counts.guest ∙ takes.guest ∙ ap (λ g. put_in_guest put g content) seen.guest ∙ in_guest_on (sent Hvm (image_records chunks)) content ∙ ap (kept_guest kept) (sym (sent_more chunks c)) in
      record {
        count = counts.chunks ∙ ap (λ n. n + 1) (takes.chunks ∙ seen.count) ∙ sym (length-append chunks (c ∷ []));
        guest = guest;
        many = ap (λ (g : GuestOf). maps.len g.frames) guest ∙ same_count (sent Hvm (image_records (chunks ++ c ∷ []))).frames;
        emulators = counts.emulators ∙ takes.emulators ∙ ap (λ e. put_in_emulators e content) seen.emulators ∙ sym (told_more chunks c);
        requests = counts.requests ∙ ap (λ b. b || is_value_of 32 kind) (takes.requests ∙ seen.requests) ∙ sym (value_more 32 chunks c);
        buffered = counts.buffered ∙ ap (λ b. b || is_value_of 33 kind) (takes.buffered ∙ seen.buffered) ∙ sym (value_more 33 chunks c);
      }
