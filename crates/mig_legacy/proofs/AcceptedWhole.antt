-- An accepted guest is whole, with the parts of its device model: each chunk that is spelled leaves the guest on its way and the
-- emulators well formed, and the tail sets the context.
use Rattle.mig_legacy.proofs.Common.{◌≡◌, ℕ, ◌<◌, true, false, List, [], ◌++◌, length, Option, Some, None, refl, sym, ap, subst, ◌∙◌, arith, length-append, All-append, fold-append, AreBytes, Hvm, Pv, GuestOf, width_of, IsStreamed, guest_done, context_kept, EmulatorsOf, emulators_of, put_libxl_content, no_emulators, AreEmulators, IsStreamedBare, GrewByRecord, IsBegun, sent, put_record, empty_guest, sent_kind, words, page_data_words, ChunkKind, End, LegacyContent, LegacyChunk, LegacyTail, Nothing, param_key, tsc_key, store_records, image_records, tail_records, device_records, guest_without, device_model, is_legacy_ended, mean_legacy, put_entry, put_in_guest, put_in_emulators, put_tail, put_device, HasLegacyContent, StoreFits, FollowsLegacy, IsTail, IsDevice, AcceptedLegacy, blank, IsOfBytes, signature, IsFew, bytes_front, bytes_back, none_yet, IsWhole, empty_begun, grows_not, le32}
use Rattle.mig_bytes.specs.Sequences.{Spells}
use Rattle.mig_bytes.specs.Sequences.Spells.{no_part, one_more}
use Rattle.mig_legacy.specs.Chunks.{IsWithinLimits}
use Rattle.mig_legacy.proofs.ChunkNumbers.{sound_kind}
use Rattle.mig_restore_form.proofs.AcceptedWhole.{entries_grow}
use Rattle.mig_legacy.specs.Spelled.HasLegacyContent.{ends, batch, vcpus, clock, last_checkpoint, toolstack, value}
use Rattle.mig_legacy.proofs.BatchFrames.{good_words}
use Rattle.mig_legacy.proofs.Batches.{fine_words}
use Rattle.mig_legacy.proofs.Chunked.{sent_more, told_more}
use Rattle.mig_legacy.proofs.ChunkTexts.{end_is, ended_more}
use Rattle.mig_legacy.proofs.Growth.{part_grows, param_part, tsc_part}
use Rattle.mig_legacy.proofs.KeptStores.{toolstack_kept}
use Rattle.mig_legacy.proofs.Meaning.{sent_top, without_is}
use Rattle.mig_legacy.proofs.Tails.{tail_plain}
use Rattle.mig_legacy.proofs.TailTexts.{ends as context_ends, tail_is}

abbrev IsByte : ℕ → Type 0
IsByte b = b < 256

-- ---- chunks

guest_kept : (g : GuestOf) → g.kind ≡ Hvm → g.top ≡ 0 → (kind : ChunkKind) (body : List ℕ) (c : LegacyContent) → HasLegacyContent kind body c → IsWithinLimits kind → AreBytes body → GrewByRecord g (put_in_guest put_entry g c)
guest_kept g hvm zero _ _ _ ends limits all = grows_not g
guest_kept g hvm zero _ _ _ (batch n body es is) limits all =
    let ws = words n is.words_bytes in
    entries_grow Hvm 0 (page_data_words ws) is.pages_bytes es (bytes_back is.words_bytes is.pages_bytes (subst AreBytes is.whole all)) (good_words ws (fine_words ws is.good)) is.entries g (sym hvm) (sym zero)
guest_kept g hvm zero _ _ _ (vcpus max bits four small size) limits all = grows_not g
guest_kept g hvm zero _ _ _ (clock mode nanoseconds frequency incarnation four eight next last) limits all =
    let told = mode ++ (frequency ++ (nanoseconds ++ incarnation)) in
    let size : length told ≡ 20 = omega (arith, length-append mode (frequency ++ (nanoseconds ++ incarnation)), length-append frequency (nanoseconds ++ incarnation), length-append nanoseconds incarnation, four, eight, next, last) in
    let behind = bytes_back mode (nanoseconds ++ (frequency ++ incarnation)) all in
    let left = bytes_back nanoseconds (frequency ++ incarnation) behind in
    let are : AreBytes told = All-append IsByte mode (frequency ++ (nanoseconds ++ incarnation)) (bytes_front mode (nanoseconds ++ (frequency ++ incarnation)) all)
    (All-append IsByte frequency (nanoseconds ++ incarnation) (bytes_front frequency incarnation left) (All-append IsByte nanoseconds incarnation (bytes_front nanoseconds (frequency ++ incarnation) behind) (bytes_back frequency incarnation left))) in
    part_grows g _ tsc_key told refl refl refl (tsc_part g.kind (width_of g) told hvm size) are refl
guest_kept g hvm zero _ _ _ last_checkpoint limits all = grows_not g
guest_kept g hvm zero _ _ _ (toolstack text body es counted is) limits all = grows_not g
guest_kept g hvm zero _ _ _ (value index pad told four eight) limits all =
    part_grows g _ (param_key index) told refl refl refl (param_part g.kind (width_of g) index told hvm limits eight) (bytes_back pad told all) refl

emulators_kept : (chunks : List LegacyChunk) (kind : ChunkKind) (body : List ℕ) (c : LegacyContent) → HasLegacyContent kind body c → StoreFits chunks c → AreBytes body → AreEmulators (emulators_of (store_records chunks)) → AreEmulators (put_in_emulators (emulators_of (store_records chunks)) c)
emulators_kept chunks _ _ _ ends fits all are = are
emulators_kept chunks _ _ _ (batch n body es is) fits all are = are
emulators_kept chunks _ _ _ (vcpus max bits four small size) fits all are = are
emulators_kept chunks _ _ _ (clock mode nanoseconds frequency incarnation four eight next last) fits all are = are
emulators_kept chunks _ _ _ last_checkpoint fits all are = are
emulators_kept chunks _ _ _ (toolstack text body es counted is) fits all are =
    toolstack_kept (emulators_of (store_records chunks)) body es are is fits (bytes_back counted.front body (subst AreBytes counted.whole all))
emulators_kept chunks _ _ _ (value index pad told four eight) fits all are = are

-- what chunks keep as they come
record Keeps (chunks : List LegacyChunk) : Type 0 where
  guest : IsBegun (sent Hvm (image_records chunks))
  emulators : AreEmulators (emulators_of (store_records chunks))

none_kept : Keeps []
unfolding sent emulators_of
none_kept = record { guest = empty_begun Hvm; emulators = none_yet }

spelled_kept : (bytes : List ℕ) (chunks : List LegacyChunk) → AreBytes bytes → Spells FollowsLegacy bytes chunks → Keeps chunks
spelled_kept _ _ all no_part = none_kept
spelled_kept _ _ all (one_more bytes chunks c text before f) =
    let k = spelled_kept bytes chunks (bytes_front bytes text all) before in
    let is = f.is in
    let body = bytes_back is.number is.body (subst AreBytes is.whole (bytes_back bytes text all)) in
    let grown = guest_kept (sent Hvm (image_records chunks)) (sent_kind Hvm (image_records chunks)) (sent_top chunks) c.kind is.body c.content is.says (sound_kind c.kind (le32 is.number 0) is.is) body in
    record {
      guest = subst IsBegun (sym (sent_more chunks c)) (grown.kept k.guest);
      emulators = subst AreEmulators (sym (told_more chunks c)) (emulators_kept chunks c.kind is.body c.content is.says f.fits body k.emulators);
    }

-- ---- the last chunk

end_says : (kind : ChunkKind) (body : List ℕ) (c : LegacyContent) → HasLegacyContent kind body c → kind ≡ End → c ≡ Nothing
end_says _ _ _ ends is = refl
end_says _ _ _ (batch n body es batches) is = cc
end_says _ _ _ (vcpus max bits four small size) is = refl
end_says _ _ _ (clock mode nanoseconds frequency incarnation four eight next last) is = cc
end_says _ _ _ last_checkpoint is = refl
end_says _ _ _ (toolstack text body es counted says) is = cc
end_says _ _ _ (value index pad told four eight) is = cc

-- it asks for not too many frames, and adds none
ended_few : (bytes : List ℕ) (chunks : List LegacyChunk) → Spells FollowsLegacy bytes chunks → is_legacy_ended chunks ≡ true → IsFew (sent Hvm (image_records chunks)).frames
ended_few _ _ no_part ended = let no : false ≡ true = ended in cc
ended_few _ _ (one_more bytes chunks c text before f) ended =
    let last = end_is c.kind (sym (ended_more chunks c f.not_ended) ∙ ended) in
    let same = sent_more chunks c ∙ ap (put_in_guest put_entry (sent Hvm (image_records chunks))) (end_says c.kind f.is.body c.content f.is.says last) in
    subst (λ (g : GuestOf). IsFew g.frames) (sym same) (f.complete last).few

-- ---- the tail, and the device model

with_tail : (chunks : List LegacyChunk) (t : LegacyTail) → sent Hvm (image_records chunks ++ tail_records t) ≡ put_tail (sent Hvm (image_records chunks)) t
unfolding sent
with_tail chunks t = fold-append put_record (empty_guest Hvm) (image_records chunks) (tail_records t)

tail_kept : (g : GuestOf) → g.kind ≡ Hvm → IsBegun g → IsFew g.frames → (bytes : List ℕ) (t : LegacyTail) → IsTail bytes t → AreBytes bytes → IsStreamedBare (put_tail g t)
tail_kept g hvm begun few bytes t is all =
    let told = t.requests ++ (t.buffered ++ t.store) in
    let size : length told ≡ 24 = omega (arith, length-append t.requests (t.buffered ++ t.store), length-append t.buffered t.store, is.requests_len, is.buffered_len, is.store_len) in
    let first = subst AreBytes is.whole all in
    let second = bytes_back t.requests (t.buffered ++ (t.store ++ is.text)) first in
    let third = bytes_back t.buffered (t.store ++ is.text) second in
    let text = bytes_back t.store is.text third in
    let are : AreBytes told = All-append IsByte t.requests (t.buffered ++ t.store) (bytes_front t.requests (t.buffered ++ (t.store ++ is.text)) first)
    (All-append IsByte t.buffered t.store (bytes_front t.buffered (t.store ++ is.text) second) (bytes_front t.store is.text third)) in
    let context = bytes_back is.counted.front is.context (subst AreBytes is.counted.whole text) in
    tail_plain g told is.context (length is.is_context.before) hvm size are context (context_ends bytes t is) is.counted.small (put_tail g t) begun few (ap (put_tail g) (sym (tail_is bytes t is)))

with_device : (chunks : List LegacyChunk) (device : Option (List ℕ)) → emulators_of (store_records chunks ++ device_records device) ≡ put_device (emulators_of (store_records chunks)) device
unfolding emulators_of
with_device chunks device = fold-append (λ e r. put_libxl_content e r.content) no_emulators (store_records chunks) (device_records device)

device_kept : (e : EmulatorsOf) → AreEmulators e → (bytes : List ℕ) (device : Option (List ℕ)) (rest : List ℕ) → IsDevice bytes device rest → AreBytes bytes → AreEmulators (put_device e device)
device_kept e are bytes None rest is all = are
device_kept e are bytes (Some content) rest (text, whole, counted) all =
    context_kept e (put_device e (Some content)) content 0 0 are (omega arith) (omega arith) refl (omega (arith, counted.small))
    (bytes_back counted.front content (subst AreBytes counted.whole (bytes_back signature text (subst AreBytes whole all))))

-- ---- the stream

legacy_done : (input : List ℕ) (guest : GuestOf) (rest : List ℕ) → AreBytes input → AcceptedLegacy input guest rest → IsStreamed guest
unfolding mean_legacy
legacy_done input guest rest all a =
    let s = a.stream in
    let is = a.spelled in
    let g = sent Hvm (image_records s.chunks) in
    let hvm = sent_kind Hvm (image_records s.chunks) in
    let at_chunks = bytes_back is.start (is.bytes ++ (is.tail ++ (is.device ++ rest))) (subst AreBytes is.whole all) in
    let at_tail = bytes_back is.bytes (is.tail ++ (is.device ++ rest)) at_chunks in
    let at_device = bytes_back is.tail (is.device ++ rest) at_tail in
    let k = spelled_kept is.bytes s.chunks (bytes_front is.bytes (is.tail ++ (is.device ++ rest)) at_chunks) is.spelled in
    let plain : IsStreamedBare (put_tail g s.tail) = tail_kept g hvm k.guest (ended_few is.bytes s.chunks is.spelled is.ended) is.tail s.tail is.is_tail (bytes_front is.tail (is.device ++ rest) at_tail) in
    let model : AreEmulators (put_device (emulators_of (store_records s.chunks)) s.device) = device_kept (emulators_of (store_records s.chunks)) k.emulators is.device s.device rest is.is_device (bytes_front is.device rest at_device) in
    let same = without_is s ∙ with_tail s.chunks s.tail in
    let kind : (guest_without s).kind ≡ Hvm = ap (λ (x : GuestOf). x.kind) (without_is s) ∙ sent_kind Hvm (image_records s.chunks ++ tail_records s.tail) in
    subst IsStreamed (sym a.means) (guest_done (guest_without s) (device_model s) (subst IsStreamedBare (sym same) plain) (subst AreEmulators (sym (with_device s.chunks s.device)) model)
    (λ pv. let no : Hvm ≡ Pv = sym kind ∙ pv in absurd (cc)))

pub accepted_legacy_whole : (input : List ℕ) (guest : GuestOf) (rest : List ℕ) → AreBytes input → AcceptedLegacy input guest rest → IsWhole guest × (blank guest ≡ guest) × IsOfBytes guest
accepted_legacy_whole input guest rest all a = let done = legacy_done input guest rest all a in (done.whole, done.blank, done.bytes)
