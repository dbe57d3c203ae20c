-- Judging a stream of either form takes a front, and no front of bytes that are refused is accepted.
use Rattle.mig_relay.proofs.Common.{◌≡◌, ℕ, Bool, true, false, cond, nat_eq, nat_le, List, [], ◌++◌, length, take, drop, None, refl, sym, ap, ◌∙◌, arith, append_assoc, append-nil, length-append, length-take-le, take-append-drop, eqb-true, le-leb, leb-true, not-false, ◌&&◌, be64, ◌>>=◌, placed, Passes, onward, Front, TakesFronts, front_pass, front_said, front_then, front_placed, both_pass, passes_not, placed_passes, same_passes, said_passes, starts, LibxlRecord, rows_fine, marker_of, libxl_ident, marker_rows, fault_of_marker, fault_of_libxl, Cause, Truncated, Place, ImageHeader, LibxlHeader, is_libxl_ended, StreamOf, header_at, Bare, Wrapped, ImageOf, image_at, marker_at, opening_behind, is_unasked, open_bare, IsPassable, IsOpenRefused, sequence_at}
use Rattle.std.proofs.lemmas.List.{drop_at}
use Rattle.mig_headers.specs.Headers.{marker}
use Rattle.mig_libxl_form.specs.Judging.{libxl_record_at}
use Rattle.mig_libxl_form.specs.Stream.{bare_at, wrapped_at, stream_at, IsStreamRefused}
use Rattle.mig_restore_form.specs.Stream.{opening_at}
use Rattle.mig_relay.specs.Images.{open_records, open_image_at}
use Rattle.mig_relay.specs.Streams.{open_libxl_record, open_libxl_records, open_wrapped, open_stream_at}
use Rattle.mig_relay.proofs.Asked.{IsLeft, image_opens}
use Rattle.mig_relay.proofs.Fronts.{front_onward, joined}
use Rattle.mig_relay.proofs.Images.{front_image}
use Rattle.mig_relay.proofs.Opens.{Opens, same, opens_as, opens_then, opens_onward, opens_passes, opens_refused}
use Rattle.mig_relay.proofs.Records.{front_libxl_record, libxl_shrinks, record_opens}

-- ---- each form takes a front

pub front_libxl_records : (records : List LibxlRecord) → TakesFronts (open_libxl_records records)
unfolding open_libxl_records
front_libxl_records records =
    front_then (onward is_libxl_ended open_libxl_record records) (λ all. Passes (Wrapped all.0) all.1) (front_onward is_libxl_ended open_libxl_record libxl_shrinks front_libxl_record records) (λ all. front_pass (Wrapped all))

pub front_wrapped : TakesFronts open_wrapped
unfolding open_wrapped
front_wrapped =
    front_then (λ i. placed LibxlHeader (header_at i)) (λ header. open_libxl_records [] header.1) (front_placed LibxlHeader header_at (front_said Truncated fault_of_libxl (λ header. header) 8)) (λ header. front_libxl_records [])

pub front_bare : TakesFronts open_bare
front_bare = front_then open_image_at (λ image. Passes (Bare image.0) image.1) front_image (λ image. front_pass (Bare image))

-- ---- the first 8 bytes

-- the ident
pub wrapped_form : (first rest : List ℕ) → length first ≡ 8 → nat_eq (be64 first 0) libxl_ident ≡ true → open_stream_at (first ++ rest) ≡ open_wrapped rest
unfolding open_stream_at
wrapped_form first rest size ident =
    let long : nat_le 8 (length (first ++ rest)) ≡ true = le-leb 8 _ (omega (arith, size, length-append first rest)) in
    rw (long, marker_of first rest size, ident, drop_at first rest 8 size) refl

-- 8 bytes without fault are the marker
marker_stands : (i first rest : List ℕ) → i ≡ first ++ rest → length first ≡ 8 → fault_of_marker first ≡ None → be64 i 0 ≡ marker
marker_stands i first rest whole size fine =
    ap (λ l. be64 l 0) whole ∙ marker_of first rest size ∙ eqb-true (be64 first 0) marker (not-false (nat_eq (be64 first 0) marker) (rows_fine (marker_rows first) fine).0)

-- an image begins with the marker
image_marker : (i : List ℕ) (image : ImageOf) (rest : List ℕ) → open_image_at i ≡ Passes image rest → be64 i 0 ≡ marker
unfolding open_image_at opening_at
image_marker i image rest h =
    let o = both_pass (opening_at i) (λ opening. open_records opening.0 [] opening.1) image rest h in
    let m = both_pass (placed ImageHeader (marker_at i)) (λ m. opening_behind m.1) o.x o.mid o.first in
    let s = said_passes Truncated fault_of_marker (λ marker. marker) 8 i m.x m.mid (placed_passes ImageHeader (marker_at i) m.x m.mid m.first) in
    marker_stands i s.bytes m.mid s.whole s.size s.fine

-- which is no ident
pub bare_form : (i : List ℕ) (s : StreamOf) (rest : List ℕ) → open_bare i ≡ Passes s rest → open_stream_at i ≡ Passes s rest
unfolding open_stream_at
bare_form i s rest h =
    let b = both_pass (open_image_at i) (λ image. Passes (Bare image.0) image.1) s rest h in
    by (nat_le 8 (length i)) (be64 i 0) (image_marker i b.x b.mid b.first)
  where
    by : (long : Bool) (n : ℕ) → n ≡ marker → cond (long && nat_eq n libxl_ident) (open_wrapped (drop 8 i)) (open_bare i) ≡ Passes s rest
    by true n is = rw is h
    by false n is = h

-- a stream of either form takes a front
pub front_stream : TakesFronts open_stream_at
unfolding open_stream_at
front_stream i s rest h = by (nat_le 8 (length i)) (nat_eq (be64 i 0) libxl_ident) refl refl h
  where
    bare : open_bare i ≡ Passes s rest → Front open_stream_at i s rest
    bare is = let f = front_bare i s rest is in record { front = f.front; whole = f.whole; again = λ more. bare_form (f.front ++ more) s more (f.again more) }

    by : (long ident : Bool) → nat_le 8 (length i) ≡ long → nat_eq (be64 i 0) libxl_ident ≡ ident → cond (long && ident) (open_wrapped (drop 8 i)) (open_bare i) ≡ Passes s rest → Front open_stream_at i s rest
    by true true long ident is =
        let first = take 8 i in
        let size : length first ≡ 8 = length-take-le 8 i (leb-true 8 (length i) long) in
        let named : nat_eq (be64 first 0) libxl_ident ≡ true = ap (λ n. nat_eq n libxl_ident) (sym (marker_of first (drop 8 i) size) ∙ ap (λ l. be64 l 0) (take-append-drop 8 i)) ∙ ident in
        let f = front_wrapped (drop 8 i) s rest is in
        record {
          front = first ++ f.front;
          whole = joined i (drop 8 i) first f.front rest (sym (take-append-drop 8 i)) f.whole;
          again = λ more. ap open_stream_at (append_assoc first f.front more) ∙ wrapped_form first (f.front ++ more) size named ∙ f.again more;
        }
    by true false long ident is = bare is
    by false other long ident is = bare is

-- ---- a stream is judged so with the causes left out

wrapped_opens : (i : List ℕ) → Opens IsLeft (wrapped_at i) (open_wrapped i)
unfolding wrapped_at open_wrapped open_libxl_records
wrapped_opens i =
    let header = placed LibxlHeader (header_at i) in
    opens_then IsLeft header header (λ h. sequence_at is_libxl_ended libxl_record_at h.1 >>= λ records. Passes (Wrapped records.0) records.1) (λ h. open_libxl_records [] h.1) (same header)
    (λ h rest is. opens_then IsLeft (sequence_at is_libxl_ended libxl_record_at rest) (onward is_libxl_ended open_libxl_record [] rest) (λ records. Passes (Wrapped records.0) records.1) (λ records. Passes (Wrapped records.0) records.1)
    (opens_as IsLeft _ _ _ _ (starts is_libxl_ended libxl_record_at rest) refl (opens_onward IsLeft is_libxl_ended libxl_record_at open_libxl_record record_opens libxl_shrinks [] rest))
    (λ records after fine. same (Passes (Wrapped records) after)))

bare_opens : (i : List ℕ) → Opens IsLeft (bare_at i) (open_bare i)
bare_opens i = opens_then IsLeft (image_at i) (open_image_at i) (λ image. Passes (Bare image.0) image.1) (λ image. Passes (Bare image.0) image.1) (image_opens i) (λ image rest is. same (Passes (Bare image) rest))

pub stream_opens : (i : List ℕ) → Opens IsLeft (stream_at i) (open_stream_at i)
unfolding stream_at open_stream_at
stream_opens i = by (nat_le 8 (length i) && nat_eq (be64 i 0) libxl_ident)
  where
    by : (wrapped : Bool) → Opens IsLeft (cond wrapped (wrapped_at (drop 8 i)) (bare_at i)) (cond wrapped (open_wrapped (drop 8 i)) (open_bare i))
    by true = wrapped_opens (drop 8 i)
    by false = bare_opens i

-- ---- what follows for streams

pub accepted_passes : (i : List ℕ) (s : StreamOf) (rest : List ℕ) → stream_at i ≡ Passes s rest → open_stream_at i ≡ Passes s rest
accepted_passes i s rest is = opens_passes IsLeft (stream_at i) (open_stream_at i) s rest (stream_opens i) is

other_left : {b : Bool} → b ≡ true → b ≡ false → ⊥
other_left h g = cc

pub refused_is_open_refused : (i : List ℕ) (place : Place) (cause : Cause) (rest : List ℕ) → IsStreamRefused i place cause rest → is_unasked cause ≡ false → IsOpenRefused i place cause rest
refused_is_open_refused i place cause rest is kept = opens_refused IsLeft (stream_at i) (open_stream_at i) (place, cause) rest (stream_opens i) is (λ left. other_left left kept)

-- passable bytes pass, whatever follows them
pub fronts_pass : (front more : List ℕ) (s : StreamOf) → IsPassable front s → open_stream_at (front ++ more) ≡ Passes s more
fronts_pass front more s passes =
    let f = front_stream front s [] passes in
    ap (λ l. open_stream_at (l ++ more)) (f.whole ∙ append-nil f.front) ∙ f.again more

pub no_prefix_passes : (front more : List ℕ) (s other : StreamOf) → IsPassable (front ++ more) s → IsPassable front other → more ≡ []
no_prefix_passes front more s other whole part = sym (same_passes s other [] more (sym whole ∙ fronts_pass front more other part)).1

pub unfinished_is_not_accepted : (front more : List ℕ) (s : StreamOf) (place : Place) (cause : Cause) (rest : List ℕ) → IsOpenRefused (front ++ more) place cause rest → stream_at front ≡ Passes s [] → ⊥
unfinished_is_not_accepted front more s place cause rest refused accepted =
    passes_not s more (place, cause) rest (sym (fronts_pass front more s (accepted_passes front s [] accepted)) ∙ refused)
