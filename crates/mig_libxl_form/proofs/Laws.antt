-- What judging accepts is what is spelled as the format says, of either form.
use Rattle.mig_libxl_form.proofs.Common.{◌≡◌, ℕ, Bool, true, false, cond, List, [], ◌∷◌, ◌++◌, length, take, drop, Some, None, refl, sym, ap, subst, ◌∙◌, arith, append_assoc, take-append-drop, nat_eq, nat_le, ◌&&◌, eqb-true, leb-true, Judged, ◌>>=◌, placed, Passes, said_goes, said_passes, Spells, no_part, one_more, Cause, Truncated, Place, GuestOf, IsImage, ImageOf, LibxlRecord, is_libxl_ended, image_among, FollowsLibxl, libxl_records_at, Bare, Wrapped, length-take-le, length-drop, both_pass, placed_passes, same_passes, then_passes, libxl_ident, marker_of, image_at, accepted_is_image, IsStream, AcceptedStream, StreamOf, image_of_stream, guest_of, same_Some, inl, inr, ◌⊎◌, and_parts, eq-eqb, Faulty, accepted_spelled, spelled_accepted, IsImageHeader, IsLibxlHeader, fault_of_libxl, is_from_legacy, marker, unless_ok, IsWrapped}
use Rattle.mig_headers.specs.declared.fault.Place.TheVariants.{LibxlHeader}
use Rattle.mig_libxl_form.specs.Stream.{header_at, bare_at, wrapped_at, stream_at, IsStreamRefused}
use Rattle.byteorder.specs.Numbers.{big_from-append}
use Rattle.mig_bytes.specs.Fields.{be32, be64}
use Rattle.mig_headers.proofs.LibxlHeaders.{libxl_is_spelled}
use Rattle.mig_restore_form.proofs.Converse.{image_is_accepted as image_passes}
use Rattle.mig_libxl_form.specs.Judging.{libxl_record_at}
use Rattle.mig_libxl_form.proofs.Records.{found, record_goes, not_ended}
use Rattle.mig_libxl_form.proofs.Forms.{behind_header, form_wrapped}
use Rattle.mig_libxl_form.proofs.Among.{ended_more, among_more}

-- ---- the header

-- the first 8 bytes of an input, where they are those of a libxl stream
pub record Ident (input : List ℕ) : Type 0 where
  pub ident : List ℕ
  pub behind : List ℕ
  pub whole : input ≡ ident ++ behind
  pub size : length ident ≡ 8
  pub is : be64 ident 0 ≡ libxl_ident

pub ident_of : (input : List ℕ) → (nat_le 8 (length input) && nat_eq (be64 input 0) libxl_ident) ≡ true → Ident input
ident_of input is =
    let both = and_parts (nat_le 8 (length input)) (nat_eq (be64 input 0) libxl_ident) is in
    let size : length (take 8 input) ≡ 8 = length-take-le 8 input (leb-true 8 (length input) both.0) in
    let whole : take 8 input ++ drop 8 input ≡ input = take-append-drop 8 input in
    record {
      ident = take 8 input;
      behind = drop 8 input;
      whole = sym whole;
      size = size;
      is = sym (marker_of (take 8 input) (drop 8 input) size) ∙ ap (λ l. be64 l 0) whole ∙ eqb-true (be64 input 0) libxl_ident both.1;
    }

-- behind its ident stands a libxl stream
pub libxl_goes : (ident left : List ℕ) → length ident ≡ 8 → be64 ident 0 ≡ libxl_ident → stream_at (ident ++ left) ≡ wrapped_at left
libxl_goes ident left size is = form_wrapped ident size (eq-eqb (be64 ident 0) libxl_ident is) left

-- a header is its ident and what is without a fault behind it
pub is_header : (ident more : List ℕ) → length ident ≡ 8 → be64 ident 0 ≡ libxl_ident → length more ≡ 8 → fault_of_libxl more ≡ None → IsLibxlHeader (ident ++ more) (is_from_legacy (be32 more 4))
is_header ident more size is more_len fine = (libxl_is_spelled ident more (is_from_legacy (be32 more 4)) size more_len).0 (is, rw fine refl)

-- behind a header stand records
pub header_goes : (header left : List ℕ) (legacy : Bool) → IsLibxlHeader header legacy → stream_at (header ++ left) ≡ behind_header (header, left)
unfolding wrapped_at
header_goes header left legacy is =
    let ident = take 8 header in
    let more = drop 8 header in
    let whole : header ≡ ident ++ more = sym (take-append-drop 8 header) in
    let size : length ident ≡ 8 = length-take-le 8 header (omega (arith, is.size)) in
    let more_len : length more ≡ 8 = omega (arith, length-drop 8 header, is.size) in
    let read = (libxl_is_spelled ident more legacy size more_len).1 (subst (λ l. IsLibxlHeader l legacy) whole is) in
    let fine = (unless_ok (fault_of_libxl more) (record { legacy = is_from_legacy (be32 more 4) }) (record { legacy = legacy }) read.1).0 in
    ap stream_at (ap (λ l. l ++ left) whole ∙ append_assoc ident more left) ∙ libxl_goes ident (more ++ left) size read.0
    ∙ then_passes (placed LibxlHeader (header_at (more ++ left))) behind_header more left _ (ap (placed LibxlHeader) (said_goes Truncated fault_of_libxl (λ l. l) 8 more left more_len fine)) refl

-- ---- what passes is spelled

wrapped_spelled : (first input : List ℕ) (s : StreamOf) (rest : List ℕ) → length first ≡ 8 → be64 first 0 ≡ libxl_ident → wrapped_at input ≡ Passes s rest → IsStream (first ++ input) s rest
unfolding wrapped_at
wrapped_spelled first input s rest size ident h =
    let a = both_pass (placed LibxlHeader (header_at input)) (λ header. libxl_records_at header.1 >>= λ records. Passes (Wrapped records.0) records.1) s rest h in
    let b = both_pass (libxl_records_at a.mid) (λ records. Passes (Wrapped records.0) records.1) s rest a.second in
    let e = same_passes _ _ _ _ b.second in
    let p = said_passes Truncated fault_of_libxl (λ l. l) 8 input a.x a.mid (placed_passes LibxlHeader (header_at input) a.x a.mid a.first) in
    let (bytes, whole, spelled, ended) = accepted_spelled is_libxl_ended libxl_record_at FollowsLibxl found a.mid b.x b.mid b.first in
    let is : IsWrapped (first ++ input) b.x b.mid = record {
      header = first ++ p.bytes;
      legacy = is_from_legacy (be32 p.bytes 4);
      bytes = bytes;
      whole = ap (λ l. first ++ l) (p.whole ∙ ap (λ l. p.bytes ++ l) whole) ∙ sym (append_assoc first p.bytes (bytes ++ b.mid));
      is_header = is_header first p.bytes size ident p.size p.fine;
      spelled = spelled;
      ended = ended;
    } in
    subst (λ x. IsStream (first ++ input) x rest) e.0 (subst (λ l. IsWrapped (first ++ input) b.x l) e.1 is)

bare_spelled : (input : List ℕ) (s : StreamOf) (rest : List ℕ) → bare_at input ≡ Passes s rest → IsStream input s rest
bare_spelled input s rest h =
    let a = both_pass (image_at input) (λ image. Passes (Bare image.0) image.1) s rest h in
    let e = same_passes _ _ _ _ a.second in
    subst (λ x. IsStream input x rest) e.0 (subst (λ l. IsStream input (Bare a.x) l) e.1 (accepted_is_image input a.x.opening a.x.records a.mid a.first))

pub accepted_is_stream : (input : List ℕ) (s : StreamOf) (rest : List ℕ) → stream_at input ≡ Passes s rest → IsStream input s rest
unfolding stream_at
accepted_is_stream input s rest h = by_form (nat_le 8 (length input) && nat_eq (be64 input 0) libxl_ident) refl h
  where
    by_form : (b : Bool) → (nat_le 8 (length input) && nat_eq (be64 input 0) libxl_ident) ≡ b → cond b (wrapped_at (drop 8 input)) (bare_at input) ≡ Passes s rest → IsStream input s rest
    by_form false is g = bare_spelled input s rest g
    by_form true is g =
        let f = ident_of input is in
        subst (λ l. IsStream l s rest) (sym f.whole) (wrapped_spelled f.ident f.behind s rest f.size f.is (sym (libxl_goes f.ident f.behind f.size f.is) ∙ ap stream_at (sym f.whole) ∙ h))

-- ---- what is spelled passes

pub wrapped_goes : (input : List ℕ) (records : List LibxlRecord) (rest : List ℕ) → IsWrapped input records rest → stream_at input ≡ Passes (Wrapped records) rest
wrapped_goes input records rest w =
    ap stream_at w.whole ∙ header_goes w.header (w.bytes ++ rest) w.legacy w.is_header
    ∙ then_passes (libxl_records_at (w.bytes ++ rest)) (λ records. Passes (Wrapped records.0) records.1) records rest _ (spelled_accepted is_libxl_ended libxl_record_at FollowsLibxl found record_goes not_ended w.bytes records rest w.spelled w.ended) refl

-- an image doesn't begin as a libxl stream
no_ident : (header rest : List ℕ) (version : ℕ) → IsImageHeader header version → nat_eq (be64 (header ++ rest) 0) libxl_ident ≡ false
unfolding be64
no_ident header rest version is =
    let same : be64 (header ++ rest) 0 ≡ marker = unfold be64 in (big_from-append 8 header rest (omega (arith, is.size)) ∙ is.all_ones) in
    rw same refl

pub bare_goes : (input : List ℕ) (im : ImageOf) (rest : List ℕ) → IsImage input im.opening im.records rest → stream_at input ≡ Passes (Bare im) rest
unfolding stream_at
bare_goes input im rest is =
    let other : nat_eq (be64 input 0) libxl_ident ≡ false = ap (λ l. nat_eq (be64 l 0) libxl_ident) is.whole ∙ no_ident is.image_header _ im.opening.version is.is_image_header in
    by_length (nat_le 8 (length input)) refl other
  where
    goes : bare_at input ≡ Passes (Bare im) rest
    goes = then_passes (image_at input) (λ image. Passes (Bare image.0) image.1) im rest _ (image_passes input im.opening im.records rest is) refl

    by_length : (b : Bool) → nat_le 8 (length input) ≡ b → nat_eq (be64 input 0) libxl_ident ≡ false → cond (b && nat_eq (be64 input 0) libxl_ident) (wrapped_at (drop 8 input)) (bare_at input) ≡ Passes (Bare im) rest
    by_length true long other = rw other goes
    by_length false long other = goes

pub stream_is_accepted : (input : List ℕ) (s : StreamOf) (rest : List ℕ) → IsStream input s rest → stream_at input ≡ Passes s rest
stream_is_accepted input (Bare im) rest is = bare_goes input im rest is
stream_is_accepted input (Wrapped records) rest is = wrapped_goes input records rest is

-- ---- one answer

pub one_front : (input : List ℕ) (g h : GuestOf) (rest more : List ℕ) → AcceptedStream input g rest → AcceptedStream input h more → (g ≡ h) × (rest ≡ more)
one_front input g h rest more a b =
    let same = same_passes a.stream b.stream rest more (sym (stream_is_accepted input a.stream rest a.spelled) ∙ stream_is_accepted input b.stream more b.spelled) in
    let image = same_Some a.image b.image (sym a.image_is ∙ ap image_of_stream same.0 ∙ b.image_is) in
    (a.means ∙ ap (guest_of a.image) same.0 ∙ ap (λ i. guest_of i b.stream) image ∙ sym b.means, same.1)

pub never_both : (input : List ℕ) (guest : GuestOf) (rest : List ℕ) (place : Place) (cause : Cause) (more : List ℕ) → AcceptedStream input guest rest → IsStreamRefused input place cause more → ⊥
never_both input guest rest place cause more a refused = apart (sym (stream_is_accepted input a.stream rest a.spelled) ∙ refused)
  where
    apart : ◌≡◌ {A = Judged (Place × Cause) StreamOf} (Passes a.stream rest) (Faulty (place, cause) more) → ⊥
    apart e = cc

-- the records of a stream that ends have an image among them
image_there : (bytes : List ℕ) (records : List LibxlRecord) → Spells FollowsLibxl bytes records → is_libxl_ended records ≡ true → (image : ImageOf) × (image_among records ≡ Some image)
image_there _ _ no_part ended = let no : false ≡ true = ended in cc
image_there _ _ (one_more bytes records r text before f) ended =
    let last : nat_eq r.type 0 ≡ true = sym (ended_more records r f.not_ended) ∙ ended in
    let c = f.complete (eqb-true r.type 0 last) in
    (c.image, among_more records (r ∷ []) c.image c.there)

pub accepted_or_refused : (input : List ℕ) → ((guest : GuestOf) × (rest : List ℕ) × AcceptedStream input guest rest) ⊎ ((place : Place) × (cause : Cause) × (rest : List ℕ) × IsStreamRefused input place cause rest)
accepted_or_refused input = either (stream_at input) refl
  where
    image_in_it : (s : StreamOf) (rest : List ℕ) → IsStream input s rest → (image : ImageOf) × (image_of_stream s ≡ Some image)
    image_in_it (Bare im) rest is = (im, refl)
    image_in_it (Wrapped records) rest is = image_there is.bytes records is.spelled is.ended

    either : (j : Judged (Place × Cause) StreamOf) → stream_at input ≡ j → ((guest : GuestOf) × (rest : List ℕ) × AcceptedStream input guest rest) ⊎ ((place : Place) × (cause : Cause) × (rest : List ℕ) × IsStreamRefused input place cause rest)
    either (Passes s rest) is =
        let spelled = accepted_is_stream input s rest is in
        let image = image_in_it s rest spelled in
        inl (guest_of image.0 s, rest, record { stream = s; image = image.0; spelled = spelled; image_is = image.1; means = refl })
    either (Faulty at rest) is = inr (at.0, at.1, rest, is)
