-- An accepted guest is whole, with the parts of its emulators: its image means a whole guest, and each record that is spelled
-- leaves the emulators well formed.
use Rattle.mig_libxl_form.proofs.Common.{◌≡◌, ℕ, ◌≤◌, true, false, List, [], ◌∷◌, ◌++◌, length, nat_eq, Option, Some, None, refl, sym, ap, subst, ◌∙◌, arith, ◌||◌, eqb-true, length-append, AreBytes, Spells, no_part, one_more, pairs_are_read, Pair, Pv, PartKey, GuestOf, IsImage, ImageOf, LibxlRecord, LibxlContent, is_libxl_ended, image_in, image_among, Context, EmulatorsOf, no_emulators, put_libxl_content, add_pairs, AreEmulators, IsStreamedBare, HasLibxlContent, EmulatorsFit, FollowsLibxl, Bare, Wrapped, none-some, same_Some, spelled_with, IsStreamed, has_emulator, IsFront, IsLibxlRecord, IsStream, AcceptedStream, optional, ends, pairs, context, StreamOf, image_of_stream, guest_of, most_pairs, most_body, IsWhole, false≢true, or_parts, SpellPairs, blank, IsOfBytes, mean, mean_kind}
use Rattle.mig_restore_form.proofs.AcceptedWhole.{accepted_whole}
use Rattle.mig_libxl_form.specs.Emulators.{emulators_of}
use Rattle.mig_libxl_form.proofs.EmulatorGuests.{guest_done}
use Rattle.mig_libxl_form.proofs.Formed.{context_kept, pairs_kept, none_yet}
use Rattle.mig_libxl_form.specs.Carried.{IsCarried}
use Rattle.mig_libxl_form.specs.Spelled.IsLibxlRecord.{image as an_image, body as a_body}
use Rattle.mig_libxl_form.proofs.Among.{ended_more, emulator_more, emulators_more, among_more, among_first}
use Rattle.mig_records.proofs.BodyBytes.{bytes_front, bytes_back}

-- ---- bytes

-- ---- the image

abbrev meant : ImageOf → GuestOf
meant image = mean image.opening.kind image.records

image_plain : (input : List ℕ) (image : ImageOf) (rest : List ℕ) → AreBytes input → IsImage input image.opening image.records rest → IsStreamedBare (meant image)
image_plain input image rest all is =
    let w = accepted_whole input (meant image) rest all (record { opening = image.opening; records = image.records; image = is; means = refl }) in
    record { whole = w.0; blank = w.1; bytes = w.2; plain = w.3 }

-- ---- emulators

key_is : (code : ℕ) (key : PartKey) → key.code ≡ code → key ≡ record { code = code; key1 = key.key1; key2 = key.key2 }
key_is code key is = ap (λ n. record { code = n; key1 = key.key1; key2 = key.key2 }) is

module _ (e : EmulatorsOf) (are : AreEmulators e) (key : PartKey) (front : List ℕ) where
  pairs_added : (text : List ℕ) (ps : List Pair) → IsFront 258 front key → SpellPairs text ps → spelled_with e key ps ≤ most_pairs → AreBytes text → AreEmulators (add_pairs e key ps)
  pairs_added text ps is spelled fits all =
      let read = (pairs_are_read text ps).1 spelled in
      let named = key_is 258 key is.code_is in
      let other : PartKey = record { code = 258; key1 = key.key1; key2 = key.key2 } in
      pairs_kept e (add_pairs e key ps) text key.key1 key.key2 are is.known is.small
      (ap (λ k. add_pairs e k ps) named ∙ ap (add_pairs e other) (sym read.1)) read.0
      (subst (λ n. n ≤ most_pairs) (ap (λ k. spelled_with e k ps) named ∙ ap (spelled_with e other) (sym read.1)) fits) all

  context_set : (bytes : List ℕ) → IsFront 259 front key → length (front ++ bytes) ≤ most_body → AreBytes bytes → AreEmulators (put_libxl_content e (Context key bytes))
  context_set bytes is small all =
      context_kept e (put_libxl_content e (Context key bytes)) bytes key.key1 key.key2 are is.known is.small
      (ap (λ k. put_libxl_content e (Context k bytes)) (key_is 259 key is.code_is)) (omega (arith, small, length-append front bytes, is.len)) all

-- ---- records

-- what records keep as they come: the emulators are well formed, and none without a record of one; and the image is whole
record Keeps (records : List LibxlRecord) : Type 0 where
  emulators : AreEmulators (emulators_of records)
  none : has_emulator records ≡ false → emulators_of records ≡ no_emulators
  image : (image : ImageOf) → image_among records ≡ Some image → IsStreamedBare (meant image)

none_kept : Keeps []
unfolding emulators_of
none_kept = record { emulators = none_yet; none = λ _. refl; image = λ image is. absurd (none-some image is) }

module _ (records : List LibxlRecord) (k : Keeps records) where
  -- without an image in it, a record leaves the one that is there
  still_there : (r : LibxlRecord) → image_in r.content ≡ None → (image : ImageOf) → image_among (records ++ r ∷ []) ≡ Some image → image_among records ≡ Some image
  still_there r no_image image is = by (image_among records) refl
    where
      by : (o : Option ImageOf) → image_among records ≡ o → o ≡ Some image
      by None none = absurd (none-some image (sym (among_first records r none ∙ no_image) ∙ is))
      by (Some other) there = sym (among_more records (r ∷ []) other there) ∙ is

  -- a record of no emulator leaves them as they are
  others_kept : (r : LibxlRecord) → put_libxl_content (emulators_of records) r.content ≡ emulators_of records → ((image : ImageOf) → image_among (records ++ r ∷ []) ≡ Some image → IsStreamedBare (meant image)) → Keeps (records ++ r ∷ [])
  others_kept r same image =
      let still = emulators_more records r ∙ same in
      record {
        emulators = subst AreEmulators (sym still) k.emulators;
        none = λ no. still ∙ k.none (or_parts (has_emulator records) (nat_eq r.type 2 || nat_eq r.type 3) (sym (emulator_more records r) ∙ no)).0;
        image = image;
      }

  emulator_kept : (r : LibxlRecord) → (nat_eq r.type 2 || nat_eq r.type 3) ≡ true → image_in r.content ≡ None → AreEmulators (put_libxl_content (emulators_of records) r.content) → Keeps (records ++ r ∷ [])
  emulator_kept r of no_image are = record {
    emulators = subst AreEmulators (sym (emulators_more records r)) are;
    none = λ no. absurd (false≢true (sym (or_parts (has_emulator records) (nat_eq r.type 2 || nat_eq r.type 3) (sym (emulator_more records r) ∙ no)).1 ∙ of));
    image = λ image is. k.image image (still_there r no_image image is);
  }

  nothing_kept : (r : LibxlRecord) → put_libxl_content (emulators_of records) r.content ≡ emulators_of records → image_in r.content ≡ None → Keeps (records ++ r ∷ [])
  nothing_kept r same no_image = others_kept r same (λ image is. k.image image (still_there r no_image image is))

  content_kept : (type : ℕ) (body : List ℕ) (c : LibxlContent) → HasLibxlContent type body c → length body ≤ most_body → EmulatorsFit records c → AreBytes body → Keeps (records ++ record { type = type; content = c } ∷ [])
  content_kept _ _ c (optional type body high) small fits all = nothing_kept (record { type = type; content = c }) refl refl
  content_kept type _ c ends small fits all = nothing_kept (record { type = type; content = c }) refl refl
  content_kept type _ c (pairs front text key ps is spelled) small fits all =
      emulator_kept (record { type = type; content = c }) refl refl (pairs_added (emulators_of records) k.emulators key front text ps is spelled fits (bytes_back front text all))
  content_kept type _ c (context front bytes key is) small fits all =
      emulator_kept (record { type = type; content = c }) refl refl (context_set (emulators_of records) k.emulators key front bytes is small (bytes_back front bytes all))

  is_kept : (r : LibxlRecord) (text : List ℕ) → IsLibxlRecord r text → EmulatorsFit records r.content → (r.type ≡ 1 → image_among records ≡ None) → AreBytes text → Keeps (records ++ r ∷ [])
  is_kept r _ (an_image head text image is spelled) fits one all =
      others_kept r refl
      (λ other there. subst (λ i. IsStreamedBare (meant i)) (same_Some image other (sym (among_first records r (one refl)) ∙ there)) (image_plain text image [] (bytes_back head text all) spelled))
  is_kept _ text (a_body type body _ c is small says) fits one all =
      content_kept type body c says small fits (bytes_front body is.padding (bytes_back is.head (body ++ is.padding) (subst AreBytes is.whole all)))

spelled_kept : (bytes : List ℕ) (records : List LibxlRecord) → AreBytes bytes → Spells FollowsLibxl bytes records → Keeps records
spelled_kept _ _ all no_part = none_kept
spelled_kept _ _ all (one_more bytes records r text before f) =
    is_kept records (spelled_kept bytes records (bytes_front bytes text all) before) r text f.is f.fits f.one_image (bytes_back bytes text all)

-- a PV guest has no emulators where the stream ends
pub alone : (bytes : List ℕ) (records : List LibxlRecord) (image : ImageOf) → Spells FollowsLibxl bytes records → is_libxl_ended records ≡ true → image_among records ≡ Some image → image.opening.kind ≡ Pv → has_emulator records ≡ false
alone _ _ image no_part ended there pv = let no : false ≡ true = ended in cc
alone _ _ image (one_more bytes records r text before f) ended there pv =
    let zero : r.type ≡ 0 = eqb-true r.type 0 (sym (ended_more records r f.not_ended) ∙ ended) in
    let c = f.complete zero in
    let same : c.image ≡ image = same_Some c.image image (sym (among_more records (r ∷ []) c.image c.there) ∙ there) in
    emulator_more records r
    ∙ ap (λ b. b || (nat_eq r.type 2 || nat_eq r.type 3)) (c.emulators (ap (λ (i : ImageOf). i.opening.kind) same ∙ pv))
    ∙ ap (λ n. nat_eq n 2 || nat_eq n 3) zero

-- ---- the stream

accepted_done : (input : List ℕ) (guest : GuestOf) (rest : List ℕ) → AreBytes input → AcceptedStream input guest rest → IsStreamed guest
accepted_done input guest rest all a = subst IsStreamed (sym a.means) (by a.stream a.spelled a.image_is)
  where
    by : (s : StreamOf) → IsStream input s rest → image_of_stream s ≡ Some a.image → IsStreamed (guest_of a.image s)
    by (Bare image) is there =
        guest_done (meant a.image) no_emulators (subst (λ i. IsStreamedBare (meant i)) (same_Some image a.image there) (image_plain input image rest all is)) none_yet (λ _. refl)
    by (Wrapped records) is there =
        let behind = bytes_back is.header (is.bytes ++ rest) (subst AreBytes is.whole all) in
        let k = spelled_kept is.bytes records (bytes_front is.bytes rest behind) is.spelled in
        guest_done (meant a.image) (emulators_of records) (k.image a.image there) k.emulators
        (λ pv. k.none (alone is.bytes records a.image is.spelled is.ended there (sym (mean_kind a.image.opening.kind a.image.records) ∙ pv)))

pub accepted_stream_whole : (input : List ℕ) (guest : GuestOf) (rest : List ℕ) → AreBytes input → AcceptedStream input guest rest → IsWhole guest × (blank guest ≡ guest) × IsOfBytes guest
accepted_stream_whole input guest rest all a = let done = accepted_done input guest rest all a in (done.whole, done.blank, done.bytes)

pub accepted_carried : (input : List ℕ) (guest : GuestOf) (rest : List ℕ) → AreBytes input → AcceptedStream input guest rest → IsCarried guest
accepted_carried input guest rest all a = let done = accepted_done input guest rest all a in record { whole = done.whole; blank = done.blank }
