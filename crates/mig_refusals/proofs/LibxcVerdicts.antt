-- An input is refused as an image in the format's words exactly where judging refuses it.
use Rattle.mig_refusals.proofs.Common.{◌≡◌, inl, inr, ℕ, List, ◌++◌, length, refl, sym, ap, ◌∙◌, append_assoc, be32, ◌>>=◌, placed, Passes, Faulty, then_passes, then_faulty, bind_cases, passes_not, only_first, placed_faulty, Cause, Opening, next_at, image_header_goes, headers_go, AreJudged, HasOneRefusal, AreAllAcceptedOrRefused, IsNeverBoth, refused_stops, spelled_refused, sequence_at, Place, ImageHeader, DomainHeader, Record, StreamRecord, is_ended, Follows, image_of, placed_next, records_at, opening_at, image_at, IsRefused, going, image_header, behind_marker, behind_version, goes, finds, behind_kind, stream_opened, Accepted, placed_passes, Truncated, fault_of_marker, fault_of_image, subst, said_passes, bytes_pass, begins_passes, passes_is_spelled, refused_where, opening_of, kind_at, marker_at, version_at, marker_form, version_form, kind_form, next_form, IsOpen, RefusedLibxc}
use Rattle.mig_refusals.specs.Libxc.RefusedLibxcAt.{in_marker, in_header, in_domain, in_record}
use Rattle.mig_refusals.proofs.LibxcJudged.{marker_judged, version_judged, kind_judged, next_judged}
use Rattle.mig_restore_form.proofs.Converse.{accepted_or_refused as judged, never_both as never_judged}
use Rattle.mig_refusals.proofs.Laws.{accepted_or_refused, never_both, one_refusal}

-- ---- what is refused in words is refused

opening_refused : (input rest : List ℕ) (at : Place × Cause) → opening_at input ≡ Faulty at rest → image_at input ≡ Faulty at rest
unfolding image_at
opening_refused input rest at h = then_faulty (opening_at input) (λ opening. records_at opening.0 opening.1) at rest h

next_refused : (front left : List ℕ) (o : Opening) (records : List StreamRecord) (c : Cause) (rest : List ℕ) → IsOpen front o records → next_at o records left ≡ Faulty c rest → image_at (front ++ left) ≡ Faulty (Record (length records), c) rest
unfolding image_at
next_refused front left o records c rest is_open h =
    let behind = is_open.bytes ++ left in
    let whole : front ++ left ≡ is_open.image_header ++ (is_open.domain_header ++ behind) =
    ap (λ l. l ++ left) is_open.whole ∙ append_assoc is_open.image_header (is_open.domain_header ++ is_open.bytes) left ∙ ap (λ l. is_open.image_header ++ l) (append_assoc is_open.domain_header is_open.bytes left) in
    ap image_at whole
    ∙ then_passes (opening_at (is_open.image_header ++ (is_open.domain_header ++ behind))) (λ opening. records_at opening.0 opening.1) o behind _
    (headers_go o is_open.image_header is_open.domain_header behind is_open.major is_open.minor is_open.is_image_header is_open.is_domain_header)
    (then_faulty (sequence_at is_ended (placed_next o) behind) (λ rs. Passes (image_of o rs.0) rs.1) (Record (length records), c) rest
    (spelled_refused is_ended (placed_next o) (Follows o) (finds o) (goes o) (going o) is_open.bytes left records (Record (length records), c) rest is_open.spelled is_open.not_ended (ap (placed (Record (length records))) h)))

pub refused_is : (input : List ℕ) (place : Place) (c : Cause) (rest : List ℕ) → RefusedLibxc input place c rest → IsRefused input place c rest
unfolding opening_at
refused_is input _ c rest (in_marker r) = opening_refused input rest (ImageHeader, c) (ap (λ j. placed ImageHeader j >>= behind_marker) ((refused_where marker_form input (marker_at input) c rest (marker_judged input)).1 r))
refused_is input _ c rest (in_header marker left begins r) =
    opening_refused input rest (ImageHeader, c)
    (ap (λ j. placed ImageHeader j >>= behind_marker) (sym (marker_judged input) ∙ begins_passes marker_form input marker left begins) ∙ ap (λ j. placed ImageHeader j >>= behind_version) ((refused_where version_form left (version_at left) c rest (version_judged left)).1 r))
refused_is input _ c rest (in_domain header left version whole is r) =
    ap image_at whole
    ∙ opening_refused (header ++ left) rest (DomainHeader, c) (image_header_goes header left version is ∙ ap (λ j. placed DomainHeader j >>= behind_kind version) ((refused_where kind_form left (kind_at left) c rest (kind_judged left)).1 r))
refused_is input _ c rest (in_record front left o records whole is_open r) = ap image_at whole ∙ next_refused front left o records c rest is_open ((refused_where (next_form o records) left (next_at o records left) c rest (next_judged o records left)).1 r)

-- ---- what is refused is refused in words

module _ (input : List ℕ) (place : Place) (c : Cause) (rest : List ℕ) where
  at_place : (at : Place) → at ≡ place → RefusedLibxc input at c rest → RefusedLibxc input place c rest
  at_place at same refused = subst (λ p. RefusedLibxc input p c rest) same refused

  opening_fails : opening_at input ≡ Faulty (place, c) rest → RefusedLibxc input place c rest
  unfolding opening_at
  opening_fails h = elim (bind_cases (placed ImageHeader (marker_at input)) behind_marker (place, c) rest h) [
    | inl e ↦ let p = placed_faulty ImageHeader place (marker_at input) c rest e in at_place ImageHeader p.1 (in_marker ((refused_where marker_form input (marker_at input) c rest (marker_judged input)).0 p.0))
    | inr m ↦
        let marker_passes = placed_passes ImageHeader (marker_at input) m.0 m.1 m.2 in
        elim (bind_cases (placed ImageHeader (version_at m.1)) behind_version (place, c) rest m.3) [
          | inl e ↦
              let p = placed_faulty ImageHeader place (version_at m.1) c rest e in
              at_place ImageHeader p.1 (in_header m.0 m.1 (passes_is_spelled marker_form input m.0 m.1 (marker_judged input ∙ marker_passes)) ((refused_where version_form m.1 (version_at m.1) c rest (version_judged m.1)).0 p.0))
          | inr g ↦
              let (whole, size, fine) = bytes_pass Truncated fault_of_marker 8 input m.0 m.1 marker_passes in
              let s = said_passes Truncated fault_of_image (λ l. be32 l 4) 16 m.1 g.0 g.1 (placed_passes ImageHeader (version_at m.1) g.0 g.1 g.2) in
              elim (bind_cases (placed DomainHeader (kind_at g.1)) (λ kind. Passes (opening_of g.0 kind.0) kind.1) (place, c) rest g.3) [
                | inl e ↦
                    let p = placed_faulty DomainHeader place (kind_at g.1) c rest e in
                    at_place DomainHeader p.1 (in_domain (m.0 ++ s.bytes) g.1 g.0 (whole ∙ ap (λ l. m.0 ++ l) s.whole ∙ sym (append_assoc m.0 s.bytes g.1)) (image_header m.0 s.bytes g.0 size s.size fine s.fine s.value)
                    ((refused_where kind_form g.1 (kind_at g.1) c rest (kind_judged g.1)).0 p.0))
                | inr d ↦ passes_not _ d.1 (place, c) rest d.3
              ]
        ]
  ]

  records_fail : (o : Opening) (i : List ℕ) → opening_at input ≡ Passes o i → records_at o i ≡ Faulty (place, c) rest → RefusedLibxc input place c rest
  records_fail o i opens h =
      let w = stream_opened input o i opens in
      let s = refused_stops is_ended (placed_next o) (Follows o) (finds o) i (place, c) rest (only_first (image_of o) (sequence_at is_ended (placed_next o) i) (place, c) rest h) in
      let at = Record (length s.parts) in
      let n = placed_faulty at place (next_at o s.parts s.left) c rest s.fails in
      let front = w.image_header ++ (w.domain_header ++ s.bytes) in
      let is_open : IsOpen front o s.parts = record {
        image_header = w.image_header;
        domain_header = w.domain_header;
        major = w.major;
        minor = w.minor;
        bytes = s.bytes;
        whole = refl {a = front};
        is_image_header = w.is_image_header;
        is_domain_header = w.is_domain_header;
        spelled = s.spelled;
        not_ended = s.going;
      } in
      let whole : input ≡ front ++ s.left =
      w.whole ∙ ap (λ l. w.image_header ++ l) (ap (λ l. w.domain_header ++ l) s.whole ∙ sym (append_assoc w.domain_header s.bytes s.left)) ∙ sym (append_assoc w.image_header (w.domain_header ++ s.bytes) s.left) in
      at_place at n.1 (in_record front s.left o s.parts whole is_open ((refused_where (next_form o s.parts) s.left (next_at o s.parts s.left) c rest (next_judged o s.parts s.left)).0 n.0))

  pub is_refused : IsRefused input place c rest → RefusedLibxc input place c rest
  unfolding image_at
  is_refused h = elim (bind_cases (opening_at input) (λ opening. records_at opening.0 opening.1) (place, c) rest h) [ inl e ↦ opening_fails e | inr a ↦ records_fail a.0 a.1 a.2 a.3 ]

pub agree : AreJudged RefusedLibxc IsRefused
agree = record { agree = λ input place c rest. (is_refused input place c rest, refused_is input place c rest) }

pub one : HasOneRefusal RefusedLibxc
one = one_refusal image_at RefusedLibxc agree

pub either : AreAllAcceptedOrRefused RefusedLibxc Accepted
either = accepted_or_refused image_at RefusedLibxc agree Accepted judged

pub never : IsNeverBoth RefusedLibxc Accepted
never = never_both image_at RefusedLibxc agree Accepted never_judged
