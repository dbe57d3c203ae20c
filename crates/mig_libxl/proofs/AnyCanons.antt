-- The canonical stream of a guest of either form is accepted with this guest, and is that of no other.
use Rattle.mig_libxl.proofs.Common.{◌≡◌, ◌↔◌, ℕ, Bool, true, false, List, [], ◌∷◌, ◌++◌, map, None, refl, sym, ap, subst, ◌∙◌, arith, append_assoc, append-nil, All, Pv, IsFormed, GuestOf, part_cmp, Part, ImageOf, bare_guest, has_emulators, is_of_converter, text_of_emulators, LibxlRecord, Image, EmulatorsOf, no_emulators, with_emulators, FollowsLibxl, one_more, Bare, Wrapped, spelled, canon, mean_kind, emulators_in_order, emulators_more, among_more, ended_more, none_set, is_record, no_part, libxl_header_of, mean, image_of, Nothing, AcceptedStream}
use Rattle.mig_restore_form.specs.Spelled.{IsImage, Accepted as ImageAccepted}
use Rattle.mig_canon.specs.Bare.{IsBare}
use Rattle.mig_headers.proofs.LibxlHeaders.{libxl_is_read_back}
use Rattle.mig_libxl_form.specs.Carried.{IsCarried}
use Rattle.mig_canon.specs.CanonStream.{canon_any, wrapper_opening, wrapper_closing}
use Rattle.mig_libxl_form.specs.Emulators.{emulators_of}
use Rattle.mig_libxl_form.specs.Spelled.HasLibxlContent.{ends}
use Rattle.mig_libxl_form.specs.Spelled.IsLibxlRecord.{image as an_image, body as a_body}
use Rattle.mig_libxl.proofs.Canon.{bare_is, bare_plain, bare_whole, canon_bare, plain_is, pv_plain}
use Rattle.mig_canon.proofs.Batched.{canon_is_accepted as image_is_accepted}
use Rattle.mig_libxl.proofs.EmulatorParts.{few_emulators, in_order_differ, in_order_holds}
use Rattle.mig_libxl.proofs.EmulatorRecords.{record_of_part}
use Rattle.mig_libxl.proofs.EmulatorMaps.{said_of, said_is, guest_again}
use Rattle.mig_libxl.proofs.Around.{canon_any_is, opening_none, opening_some, closing_none, closing_some}
use Rattle.mig_libxl_form.proofs.Laws.{one_front}
use Rattle.mig_libxl.proofs.WrappedCanons.{Here, here_all}
use Rattle.std.specs.FinMap as maps

-- ---- a bare image

bare_accepted : (input : List ℕ) (g : GuestOf) (rest : List ℕ) → ImageAccepted input g rest → AcceptedStream input g rest
bare_accepted input g rest a =
    record { stream = Bare (image_of a.opening a.records); image = image_of a.opening a.records; spelled = a.image; image_is = refl; means = a.means ∙ sym (none_set (mean a.opening.kind a.records)) }

-- ---- a guest that has emulators

-- an image says nothing of emulators
behind_image : (i : ImageOf) (rs : List LibxlRecord) → emulators_of (record { type = 1; content = Image i } ∷ rs) ≡ emulators_of rs
unfolding emulators_of
behind_image i rs = refl

regroup : (h s c t e rest : List ℕ) → ((h ++ s) ++ (c ++ (t ++ e))) ++ rest ≡ h ++ ((((s ++ c) ++ t) ++ e) ++ rest)
regroup h s c t e rest =
    append_assoc (h ++ s) (c ++ (t ++ e)) rest ∙ append_assoc h s ((c ++ (t ++ e)) ++ rest)
    ∙ ap (λ l. h ++ l) (sym (append_assoc s (c ++ (t ++ e)) rest) ∙ ap (λ l. l ++ rest) (sym (append_assoc s c (t ++ e)) ∙ sym (append_assoc (s ++ c) t e)))

module _ (g : GuestOf) (formed : IsFormed g) (some : has_emulators g.parts ≡ true) (image : List ℕ) (accepted : ImageAccepted (image ++ []) (bare_guest g) []) where
  abbrev ps : List Part
  ps = emulators_in_order g.parts

  abbrev im : ImageOf
  im = image_of accepted.opening accepted.records

  abbrev first : LibxlRecord
  first = record { type = 1; content = Image im }

  abbrev last : LibxlRecord
  last = record { type = 0; content = Nothing }

  abbrev text : List ℕ
  text = spelled 1 [] ++ image

  image_text : IsImage image im.opening im.records []
  image_text = subst (λ l. IsImage l im.opening im.records []) (append-nil image) accepted.image

  first_follows : FollowsLibxl [] first text
  first_follows = record {
    is = an_image (spelled 1 []) image im (is_record 1 [] (omega arith) (omega arith)) image_text;
    fits = tt;
    few = omega arith;
    not_ended = refl;
    one_image = λ one. refl;
    complete = λ (zero : 1 ≡ 0). absurd (omega (arith, zero));
  }

  nothing_yet : emulators_of (first ∷ []) ≡ no_emulators
  unfolding emulators_of
  nothing_yet = refl

  at_first : Here g formed im (first ∷ []) text ps
  at_first = record {
    spelled = one_more [] [] first text no_part first_follows;
    going = refl;
    image = refl;
    absent = subst (λ (e : EmulatorsOf). All (λ (p : Part). maps.get e.stores p.0 ≡ None) ps) (sym nothing_yet) (λ k d l. maps.get-empty part_cmp _);
    few = let few = few_emulators g formed in omega (arith, few);
  }

  all_parts : Here g formed im (first ∷ map record_of_part ps) (text ++ text_of_emulators ps) []
  all_parts = here_all g formed im (first ∷ []) text ps at_first (in_order_holds g.parts) (in_order_differ g.parts)

  abbrev records : List LibxlRecord
  records = (first ∷ map record_of_part ps) ++ last ∷ []

  -- a guest with emulators is no PV guest
  no_pv : im.opening.kind ≡ Pv → ⊥
  no_pv pv =
      let kind : g.kind ≡ Pv = ap (λ (x : GuestOf). x.kind) accepted.means ∙ mean_kind im.opening.kind im.records ∙ pv in
      let none : has_emulators g.parts ≡ false = (plain_is g.parts).1 (pv_plain g formed kind) in
      apart (sym some ∙ none)
    where
      apart : true ≡ false → ⊥
      apart e = cc

  last_follows : FollowsLibxl (first ∷ map record_of_part ps) last (spelled 0 [])
  last_follows = record {
    is = a_body 0 [] (spelled 0 []) Nothing (is_record 0 [] (omega arith) (omega arith)) (omega arith) ends;
    fits = tt;
    few = let few = all_parts.few in omega (arith, few);
    not_ended = all_parts.going;
    one_image = λ (one : 0 ≡ 1). absurd (omega (arith, one));
    complete = λ zero. record { image = im; there = all_parts.image; emulators = λ pv. absurd (no_pv pv) };
  }

  said : emulators_of records ≡ said_of g
  said = emulators_more (first ∷ map record_of_part ps) last ∙ behind_image im (map record_of_part ps) ∙ said_is g

  means : g ≡ with_emulators (mean im.opening.kind im.records) (emulators_of records)
  means = sym (guest_again g formed) ∙ (λ i. with_emulators (accepted.means i) (said_of g)) ∙ ap (with_emulators (mean im.opening.kind im.records)) (sym said)

  wrapped_accepted : (rest : List ℕ) → AcceptedStream ((wrapper_opening g.parts ++ (image ++ wrapper_closing g.parts)) ++ rest) g rest
  wrapped_accepted rest = record {
    stream = Wrapped records;
    image = im;
    spelled = record {
      header = libxl_header_of (is_of_converter g.parts);
      legacy = is_of_converter g.parts;
      bytes = (text ++ text_of_emulators ps) ++ spelled 0 [];
      whole =
          (λ i. (opening_some g.parts some i ++ (image ++ closing_some g.parts some i)) ++ rest)
          ∙ regroup (libxl_header_of (is_of_converter g.parts)) (spelled 1 []) image (text_of_emulators ps) (spelled 0 []) rest;
      is_header = (libxl_is_read_back (is_of_converter g.parts)).spelled;
      spelled = one_more (text ++ text_of_emulators ps) (first ∷ map record_of_part ps) last (spelled 0 []) all_parts.spelled last_follows;
      ended = ended_more (first ∷ map record_of_part ps) last all_parts.going;
    };
    image_is = among_more (first ∷ map record_of_part ps) (last ∷ []) im all_parts.image;
    means = means;
  }

-- ---- of either form

-- an image of the guest without its emulators, and what stands around it
pub around_is_accepted : (g : GuestOf) (image rest : List ℕ) → IsFormed g → ((more : List ℕ) → ImageAccepted (image ++ more) (bare_guest g) more)
    → AcceptedStream ((wrapper_opening g.parts ++ (image ++ wrapper_closing g.parts)) ++ rest) g rest
around_is_accepted g image rest formed accepted = by (has_emulators g.parts) refl
  where
    by : (b : Bool) → has_emulators g.parts ≡ b → AcceptedStream ((wrapper_opening g.parts ++ (image ++ wrapper_closing g.parts)) ++ rest) g rest
    by true some = wrapped_accepted g formed some image (accepted []) rest
    by false none =
        let text = (λ i. opening_none g.parts none i ++ (image ++ closing_none g.parts none i)) ∙ append-nil image in
        subst (λ l. AcceptedStream (l ++ rest) g rest) (sym text)
        (bare_accepted (image ++ rest) g rest (subst (λ (x : GuestOf). ImageAccepted (image ++ rest) x rest) (bare_is g ((plain_is g.parts).0 none)) (accepted rest)))

pub canon_is_accepted : (g : GuestOf) (rest : List ℕ) → IsCarried g → AcceptedStream (canon_any g ++ rest) g rest
canon_is_accepted g rest carried =
    let w = bare_whole g g.kind refl carried.whole carried.blank in
    let bare : IsBare (bare_guest g) = record { whole = w.0; blank = w.1; plain = bare_plain g } in
    subst (λ l. AcceptedStream (l ++ rest) g rest) (sym (canon_any_is g))
    (around_is_accepted g (canon g) rest carried.whole.formed (λ more. subst (λ l. ImageAccepted (l ++ more) (bare_guest g) more) (sym (canon_bare g)) (image_is_accepted (bare_guest g) more bare)))

pub canon_is_one_to_one : (g h : GuestOf) → IsCarried g → IsCarried h → (canon_any g ≡ canon_any h) ↔ (g ≡ h)
canon_is_one_to_one g h carried other = (
  (λ e. (one_front (canon_any g ++ []) g h [] [] (canon_is_accepted g [] carried) (subst (λ l. AcceptedStream (l ++ []) h []) (sym e) (canon_is_accepted h [] other))).0),
  (λ e. ap canon_any e),
)

pub twice_is_once : (guest other : GuestOf) (rest : List ℕ) → IsCarried guest → AcceptedStream (canon_any guest) other rest → (canon_any other ≡ canon_any guest) × (rest ≡ [])
twice_is_once guest other rest carried again =
    let once : AcceptedStream (canon_any guest) guest [] = subst (λ l. AcceptedStream l guest []) (append-nil (canon_any guest)) (canon_is_accepted guest [] carried) in
    let same = one_front (canon_any guest) other guest rest [] again once in
    (ap canon_any same.0, same.1)
