-- An input of either form is refused as the format's words say exactly where judging refuses it.
use Rattle.mig_refusals.proofs.Common.{then_faulty, only_first, ◌≡◌, inl, inr, ℕ, List, ◌++◌, length, drop, Bool, true, false, cond, nat_eq, nat_le, None, refl, sym, ap, ◌∙◌, append_assoc, be32, false≢true, placed, Passes, Faulty, Cause, ◌&&◌, be64, fault_of_libxl, is_from_legacy, libxl_ident, Place, LibxlHeader, refused_stops, AreJudged, HasOneRefusal, AreAllAcceptedOrRefused, IsNeverBoth, image_at, LibxlRecord, is_libxl_ended, FollowsLibxl, found, libxl_record_at, header_at, libxl_records_at, wrapped_at, bare_at, stream_at, IsStreamRefused, Bare, Wrapped, behind_header, Ident, ident_of, libxl_goes, is_header, AtRecord, AcceptedStream, le-leb, leb-true, eq-eqb, eqb-true, and_parts, spelled_refused, header_goes, record_goes, libxl_not_ended, placed_passes, placed_faulty, bind_cases, Truncated, subst, bytes_pass, header_form, BeginsAsLibxl, IsOpenWrapper, RefusedStream}
use Rattle.mig_libxl_form.proofs.Laws.{accepted_or_refused as judged, never_both as never_judged}
use Rattle.mig_refusals.proofs.Laws.{accepted_or_refused, never_both, one_refusal}
use Rattle.mig_refusals.proofs.LibxcVerdicts.{refused_is as image_refused_is, is_refused as image_is_refused}
use Rattle.mig_bytes_form.specs.Form.{judged_as, RefusedAs}
use Rattle.mig_bytes_form.proofs.Verdicts.{is_refused as form_is_refused, refused_is as form_refused_is}
use Rattle.mig_refusals.specs.Stream.RefusedStreamAt.{bare, in_header, in_record, in_image}
use Rattle.mig_refusals.proofs.StreamRecords.{down, image_down, up}

-- ---- which form an input has

begins : (input : List ℕ) → (nat_le 8 (length input) && nat_eq (be64 input 0) libxl_ident) ≡ true → BeginsAsLibxl input
begins input h = let b = and_parts (nat_le 8 (length input)) _ h in record { long = leb-true 8 (length input) b.0; ident = eqb-true (be64 input 0) libxl_ident b.1 }

has_begun : (input : List ℕ) → BeginsAsLibxl input → (nat_le 8 (length input) && nat_eq (be64 input 0) libxl_ident) ≡ true
has_begun input b = ap (λ t. t && nat_eq (be64 input 0) libxl_ident) (le-leb 8 (length input) b.long) ∙ eq-eqb (be64 input 0) libxl_ident b.ident

-- ---- what is refused in words is refused

-- behind an open front the next record is refused: so is the stream
next_refused : (front left : List ℕ) (records : List LibxlRecord) (at : Place × Cause) (rest : List ℕ) → IsOpenWrapper front records → libxl_record_at records left ≡ Faulty at rest → stream_at (front ++ left) ≡ Faulty at rest
next_refused front left records at rest o h =
    let behind = o.bytes ++ left in
    ap stream_at (ap (λ l. l ++ left) o.whole ∙ append_assoc o.header o.bytes left) ∙ header_goes o.header behind o.legacy o.is_header
    ∙ then_faulty (libxl_records_at behind) (λ records. Passes (Wrapped records.0) records.1) at rest (spelled_refused is_libxl_ended libxl_record_at FollowsLibxl found record_goes libxl_not_ended o.bytes left records at rest o.spelled o.not_ended h)

header_judged : (i : List ℕ) → judged_as header_form i ≡ header_at i
unfolding judged_as
header_judged i = refl

header_refused : (left : List ℕ) (c : Cause) (rest : List ℕ) → RefusedAs header_form left c rest → wrapped_at left ≡ Faulty (LibxlHeader, c) rest
unfolding wrapped_at
header_refused left c rest refused = then_faulty (placed LibxlHeader (header_at left)) behind_header (LibxlHeader, c) rest (ap (placed LibxlHeader) (sym (header_judged left) ∙ form_refused_is header_form left c rest refused))

-- a bare image
bare_refused : (input : List ℕ) (at : Place × Cause) (rest : List ℕ) → (BeginsAsLibxl input → ⊥) → image_at input ≡ Faulty at rest → stream_at input ≡ Faulty at rest
unfolding stream_at
bare_refused input at rest other h = by (nat_le 8 (length input) && nat_eq (be64 input 0) libxl_ident) refl
  where
    by : (b : Bool) → (nat_le 8 (length input) && nat_eq (be64 input 0) libxl_ident) ≡ b → cond b (wrapped_at (drop 8 input)) (bare_at input) ≡ Faulty at rest
    by true is = absurd (other (begins input is))
    by false is = then_faulty (image_at input) (λ image. Passes (Bare image.0) image.1) at rest h

pub refused_is : (input : List ℕ) (place : Place) (c : Cause) (rest : List ℕ) → RefusedStream input place c rest → IsStreamRefused input place c rest
refused_is input _ c rest (bare place other r) = bare_refused input (place, c) rest other (image_refused_is input place c rest r)
refused_is input _ c rest (in_header ident left whole size is refused) = ap stream_at whole ∙ libxl_goes ident left size is ∙ header_refused left c rest refused
refused_is input _ c rest (in_record front left records whole o refused) = ap stream_at whole ∙ next_refused front left records (AtRecord (length records), c) rest o (down records left c rest refused)
refused_is input _ c rest (in_image place front head left records whole o spelled one r) = ap stream_at whole ∙ next_refused front (head ++ left) records (place, c) rest o (image_down records head left (place, c) rest spelled one (image_refused_is left place c rest r))

-- ---- what is refused is refused in words

module _ (input : List ℕ) (place : Place) (c : Cause) (rest : List ℕ) where
  at_place : (at : Place) → at ≡ place → RefusedStream input at c rest → RefusedStream input place c rest
  at_place at same refused = subst (λ p. RefusedStream input p c rest) same refused

  -- behind an open front the next record is refused
  record_fails : (front left : List ℕ) (records : List LibxlRecord) → input ≡ front ++ left → IsOpenWrapper front records → libxl_record_at records left ≡ Faulty (place, c) rest → RefusedStream input place c rest
  record_fails front left records whole o h = elim (up records left place c rest h) [
    | inl u ↦ at_place (AtRecord (length records)) u.1 (in_record front left records whole o u.0)
    | inr u ↦ in_image place front u.head u.left records (whole ∙ ap (λ l. front ++ l) u.whole) o u.spelled u.is_context (image_is_refused u.left place c rest u.refused)
  ]

  records_fail : (f : Ident input) (more left : List ℕ) → f.behind ≡ more ++ left → length more ≡ 8 → fault_of_libxl more ≡ None → libxl_records_at left ≡ Faulty (place, c) rest → RefusedStream input place c rest
  records_fail f more left whole size fine h =
      let s = refused_stops is_libxl_ended libxl_record_at FollowsLibxl found left (place, c) rest h in
      let header = f.ident ++ more in
      let o : IsOpenWrapper (header ++ s.bytes) s.parts =
      record { header = header; legacy = is_from_legacy (be32 more 4); bytes = s.bytes; whole = refl; is_header = is_header f.ident more f.size f.is size fine; spelled = s.spelled; not_ended = s.going } in
      let all : input ≡ (header ++ s.bytes) ++ s.left =
      f.whole ∙ ap (λ l. f.ident ++ l) whole ∙ sym (append_assoc f.ident more left) ∙ ap (λ l. header ++ l) s.whole ∙ sym (append_assoc header s.bytes s.left) in
      record_fails (header ++ s.bytes) s.left s.parts all o s.fails

  wrapped_fails : (f : Ident input) → wrapped_at f.behind ≡ Faulty (place, c) rest → RefusedStream input place c rest
  unfolding wrapped_at
  wrapped_fails f h = elim (bind_cases (placed LibxlHeader (header_at f.behind)) behind_header (place, c) rest h) [
    | inl e ↦ let p = placed_faulty LibxlHeader place (header_at f.behind) c rest e in at_place LibxlHeader p.1 (in_header f.ident f.behind f.whole f.size f.is (form_is_refused header_form f.behind c rest (header_judged f.behind ∙ p.0)))
    | inr a ↦
        let (whole, size, fine) = bytes_pass Truncated fault_of_libxl 8 f.behind a.0 a.1 (placed_passes LibxlHeader (header_at f.behind) a.0 a.1 a.2) in
        records_fail f a.0 a.1 whole size fine (only_first Wrapped (libxl_records_at a.1) (place, c) rest a.3)
  ]

  pub is_refused : IsStreamRefused input place c rest → RefusedStream input place c rest
  unfolding stream_at
  is_refused h = by (nat_le 8 (length input) && nat_eq (be64 input 0) libxl_ident) refl h
    where
      other : (nat_le 8 (length input) && nat_eq (be64 input 0) libxl_ident) ≡ false → BeginsAsLibxl input → ⊥
      other is b = false≢true (sym is ∙ has_begun input b)

      by : (b : Bool) → (nat_le 8 (length input) && nat_eq (be64 input 0) libxl_ident) ≡ b → cond b (wrapped_at (drop 8 input)) (bare_at input) ≡ Faulty (place, c) rest → RefusedStream input place c rest
      by false is g = bare place (other is) (image_is_refused input place c rest (only_first Bare (image_at input) (place, c) rest g))
      by true is g =
          let f = ident_of input is in wrapped_fails f (sym (libxl_goes f.ident f.behind f.size f.is) ∙ ap stream_at (sym f.whole) ∙ h)

pub agree : AreJudged RefusedStream IsStreamRefused
agree = record { agree = λ input place c rest. (is_refused input place c rest, refused_is input place c rest) }

pub one : HasOneRefusal RefusedStream
one = one_refusal stream_at RefusedStream agree

pub either : AreAllAcceptedOrRefused RefusedStream AcceptedStream
either = accepted_or_refused stream_at RefusedStream agree AcceptedStream judged

pub never : IsNeverBoth RefusedStream AcceptedStream
never = never_both stream_at RefusedStream agree AcceptedStream never_judged
