-- What chunks and the tail mean: of each frame number the last entry decides, of each part the last that says it.
use Rattle.mig_legacy.proofs.Common.{◌≡◌, ℕ, cond, List, [], ◌∷◌, ◌++◌, Some, None, refl, sym, ap, ◌∙◌, arith, append_assoc, fold, option_and_then, option_or, common_steps, append-nil, fold-append, Hvm, GuestOf, part_cmp, PartKey, sent, mean, put_record, empty_guest, entries_of, last_entry, frame_in, same_key, last_bytes, StreamRecord, last_entry_is, parts_got, sent_kind, LegacyContent, LegacyChunk, LegacyTail, LegacyStream, param_key, records_in, tail_records, image_records, guest_without, mean_legacy, Frames, Value, batch_entries, entries_of_chunks, parts_in, parts_of_chunks, parts_of_tail, parts_told, tail_value, value_in, last_value, either_of, or_none}
use Rattle.std.specs.FinMap as maps
use Rattle.mig_guest.specs.Parts.{Part, put_part, put_parts}
use Rattle.mig_pvtables.proofs.HvmGuests.{hvm_blank}
use Rattle.mig_restore_form.specs.Mean.{entries_in as sent_entries}

-- an HVM guest is its own blank form
pub without_is : (s : LegacyStream) → guest_without s ≡ sent Hvm (image_records s.chunks ++ tail_records s.tail)
unfolding mean
without_is s = hvm_blank (sent Hvm (image_records s.chunks ++ tail_records s.tail)) (sent_kind Hvm (image_records s.chunks ++ tail_records s.tail))

-- ---- frames

entries_join : (rs qs : List StreamRecord) → entries_of (rs ++ qs) ≡ entries_of rs ++ entries_of qs
entries_join [] qs = refl
entries_join (r ∷ rs) qs = ap (λ l. sent_entries r.content ++ l) (entries_join rs qs) ∙ sym (append_assoc (sent_entries r.content) (entries_of rs) (entries_of qs))

entries_said : (c : LegacyContent) → entries_of (records_in c) ≡ batch_entries c
entries_said (Frames es) = append-nil es
entries_said _ = refl

entries_are : (chunks : List LegacyChunk) (t : LegacyTail) → entries_of (image_records chunks ++ tail_records t) ≡ entries_of_chunks chunks
entries_are [] t = refl
entries_are (c ∷ cs) t =
    ap entries_of (append_assoc (records_in c.content) (image_records cs) (tail_records t))
    ∙ entries_join (records_in c.content) (image_records cs ++ tail_records t)
    ∙ ap (λ l. l ++ entries_of (image_records cs ++ tail_records t)) (entries_said c.content)
    ∙ ap (λ l. batch_entries c.content ++ l) (entries_are cs t)

pub last_entry_decides : (s : LegacyStream) (pfn : ℕ) → maps.get (mean_legacy s).frames pfn ≡ option_and_then (frame_in Hvm) (last_entry pfn (entries_of_chunks s.chunks))
unfolding mean_legacy
last_entry_decides s pfn =
    ap (λ (g : GuestOf). maps.get g.frames pfn) (without_is s)
    ∙ last_entry_is Hvm (image_records s.chunks ++ tail_records s.tail) pfn
    ∙ ap (λ es. option_and_then (frame_in Hvm) (last_entry pfn es)) (entries_are s.chunks s.tail)

-- ---- the kind, and the greatest frame number

folded_top : (g : GuestOf) (chunks : List LegacyChunk) → (fold put_record g (image_records chunks)).top ≡ g.top
folded_top g [] = refl
folded_top g (c ∷ cs) =
    ap (λ (h : GuestOf). h.top) (fold-append put_record g (records_in c.content) (image_records cs)) ∙ folded_top (fold put_record g (records_in c.content)) cs ∙ one_top c.content
  where
    one_top : (d : LegacyContent) → (fold put_record g (records_in d)).top ≡ g.top
    one_top (Frames es) = refl
    one_top _ = refl

pub sent_top : (chunks : List LegacyChunk) → (sent Hvm (image_records chunks)).top ≡ 0
unfolding sent
sent_top chunks = folded_top (empty_guest Hvm) chunks

pub kind_is : (s : LegacyStream) → (mean_legacy s).kind ≡ Hvm
unfolding mean_legacy
kind_is s = ap (λ (g : GuestOf). g.kind) (without_is s) ∙ sent_kind Hvm (image_records s.chunks ++ tail_records s.tail)

pub top_is : (s : LegacyStream) → (mean_legacy s).top ≡ 0
unfolding mean_legacy sent
top_is s =
    ap (λ (g : GuestOf). g.top) (without_is s ∙ fold-append put_record (empty_guest Hvm) (image_records s.chunks) (tail_records s.tail))
    ∙ folded_top (empty_guest Hvm) s.chunks

-- ---- parts without the device model's

chunk_parts : (g : GuestOf) (c : LegacyContent) → (fold put_record g (records_in c)).parts ≡ put_parts g.parts (parts_in c)
chunk_parts g (Frames es) = refl
chunk_parts g _ = refl

chunks_parts : (g : GuestOf) (chunks : List LegacyChunk) → (fold put_record g (image_records chunks)).parts ≡ put_parts g.parts (parts_of_chunks chunks)
chunks_parts g [] = refl
chunks_parts g (c ∷ cs) =
    ap (λ (h : GuestOf). h.parts) (fold-append put_record g (records_in c.content) (image_records cs))
    ∙ chunks_parts (fold put_record g (records_in c.content)) cs
    ∙ ap (λ m. put_parts m (parts_of_chunks cs)) (chunk_parts g c.content)
    ∙ sym (fold-append put_part g.parts (parts_in c.content) (parts_of_chunks cs))

without_parts : (s : LegacyStream) → (guest_without s).parts ≡ put_parts maps.empty (parts_told s)
unfolding sent
without_parts s =
    ap (λ (h : GuestOf). h.parts) (without_is s ∙ fold-append put_record (empty_guest Hvm) (image_records s.chunks) (tail_records s.tail))
    ∙ ap (λ m. put_parts m (parts_of_tail s.tail)) (chunks_parts (empty_guest Hvm) s.chunks)
    ∙ sym (fold-append put_part maps.empty (parts_of_chunks s.chunks) (parts_of_tail s.tail))

pub without_part : (s : LegacyStream) (key : PartKey) → maps.get (guest_without s).parts key ≡ last_bytes key (parts_told s)
without_part s key =
    ap (λ m. maps.get m key) (without_parts s) ∙ parts_got maps.empty (parts_told s) key
    ∙ ap (option_or (last_bytes key (parts_told s))) (maps.get-empty part_cmp key) ∙ or_none (last_bytes key (parts_told s))

-- ---- HVM parameters

pub last_join : (key : PartKey) (ps qs : List Part) → last_bytes key (ps ++ qs) ≡ option_or (last_bytes key qs) (last_bytes key ps)
last_join key [] qs = sym (or_none (last_bytes key qs))
last_join key (p ∷ ps) qs = ap (λ o. option_or o (cond (same_key p.0 key) (Some p.1) None)) (last_join key ps qs) ∙ sym (either_of (last_bytes key qs) (last_bytes key ps) _)

pub tail_said : (index : ℕ) (t : LegacyTail) → last_bytes (param_key index) (parts_of_tail t) ≡ tail_value index t
tail_said index t = grind (arith, common_steps)

value_said : (index : ℕ) (c : LegacyContent) → last_bytes (param_key index) (parts_in c) ≡ value_in index c
value_said index (Value i bytes) = grind (arith, common_steps)
value_said index _ = refl

pub values_said : (index : ℕ) (chunks : List LegacyChunk) → last_bytes (param_key index) (parts_of_chunks chunks) ≡ last_value index chunks
values_said index [] = refl
values_said index (c ∷ cs) =
    last_join (param_key index) (parts_in c.content) (parts_of_chunks cs)
    ∙ ap (λ o. option_or o (last_bytes (param_key index) (parts_in c.content))) (values_said index cs)
    ∙ ap (option_or (last_value index cs)) (value_said index c.content)
