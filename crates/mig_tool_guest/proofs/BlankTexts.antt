-- A PV guest whose pages are read again where they are written, in its blank form.
use Rattle.mig_tool_guest.proofs.Common.{◌≡◌, ◌∙◌, ℕ, List, Option, Some, None, Ok, refl, sym, ap, subst, GuestOf, AcceptedStream, OutcomeSays, Refusing, accepted_is_stream, canon_any, stream_at, AreBytes, AgreesWithJudging, with_frames, FrameMap, Cause, Place, IsPlacedStream, accepted_carried, StreamOf, emulators_in, guest_of, outline, ValueMap, frames_in_file, PlacedGuest, sent_kind, mean, sent, ImageOf, same_Some, IfSome, is_some, true}
use Rattle.mig_blanked.proofs.Outlines.{stands_for}
use Rattle.mig_blanked.specs.Behind.{MarkListed, behind_after, frames_behind, guest_behind}
use Rattle.mig_guest.proofs.NextEntries.{from_zero}
use Rattle.mig_headers.specs.declared.kind.Kind.TheVariants.{Pv}
use Rattle.mig_libxl_form.proofs.EmulatorGuests.{none_set}
use Rattle.mig_libxl_form.specs.Emulators.{no_emulators, with_emulators}
use Rattle.mig_pvtables.specs.Blank.{blank}
use Rattle.mig_libxl_form.proofs.Alone.{pv_alone}
use Rattle.mig_tool_guest.proofs.Placed.{FindsAll, Found}
use Rattle.mig_tool_report.specs.declared.outcome.Outcome.TheVariants as outcomes
use Rattle.std.specs.FinMap as maps

-- the text of the guest that an outline stands for, with the frames at these places of a file
abbrev pub blanked_text : GuestOf → ValueMap → ValueMap → List ℕ → List ℕ
blanked_text g marks cells all = canon_any (guest_behind g marks (frames_in_file (Some all) cells))

abbrev sent_in : ImageOf → GuestOf
sent_in image = sent image.opening.kind image.records

-- the outline of a PV guest that was sent, with no emulators, stands for the guest that is meant
same_blank : (image : ImageOf) (s : StreamOf) (g : GuestOf) (marks : ValueMap) → emulators_in s ≡ no_emulators → g ≡ with_emulators (outline (sent_in image)) (emulators_in s) → g.kind ≡ Pv
    → MarkListed g.frames g.parts marks → guest_behind (blank g) marks (sent_in image).frames ≡ guest_of image s
unfolding mean
same_blank image s g marks alone is pv marked =
    let same : g ≡ outline (sent_in image) = is ∙ ap (with_emulators (outline (sent_in image))) alone ∙ none_set (outline (sent_in image)) in
    let kind : (sent_in image).kind ≡ Pv = sym (ap (λ (h : GuestOf). h.kind) same) ∙ pv in
    ap (λ (h : GuestOf). guest_behind (blank h) marks (sent_in image).frames) same
    ∙ stands_for (sent_in image) marks kind (subst (λ (h : GuestOf). MarkListed h.frames h.parts marks) same marked)
    ∙ sym (ap (with_emulators (mean image.opening.kind image.records)) alone ∙ none_set (mean image.opening.kind image.records))

module _ {P : Type 0} (bytes : P → Option (List ℕ)) (placed : PlacedGuest P) (marks : ValueMap) (pv : placed.outline.kind ≡ Pv) (marked : MarkListed placed.outline.frames placed.outline.parts marks) where
  pub found_blanked : (told left : Option (List ℕ)) → IfSome told AreBytes → AgreesWithJudging {C = Place × Cause} (IsPlacedStream bytes) told left stream_at (Ok placed)
      → FindsAll bytes placed.file.now (blanked_text (blank placed.outline) marks placed.places) AcceptedStream told left
  found_blanked None left are read input is = absurd (cc)
  found_blanked (Some input) left are (s, rest, accepts, left_is, h) other is =
      let accepted : AcceptedStream input (guest_of h.image s) rest = record { stream = s; image = h.image; spelled = accepted_is_stream input s rest accepts; image_is = h.is; means = refl } in
      let kind : h.image.opening.kind ≡ Pv = sym (sent_kind h.image.opening.kind h.image.records) ∙ sym (ap (λ (g : GuestOf). g.kind) h.guest) ∙ pv in
      let alone = pv_alone input s rest h.image accepted.spelled h.is kind in
      subst (Found bytes placed.file.now (blanked_text (blank placed.outline) marks placed.places) AcceptedStream left) (same_Some input other is)
      (record {
        guest = guest_of h.image s;
        rest = rest;
        accepted = accepted;
        left_is = left_is;
        carried = accepted_carried input (guest_of h.image s) rest are accepted;
        all = h.all;
        told = h.told;
        text = ap (λ fs. canon_any (guest_behind (blank placed.outline) marks fs)) h.frames ∙ ap canon_any (same_blank h.image s placed.outline marks alone h.guest pv marked);
      })

-- what a writer does with the frames that an outline stands for, it does with the guest
pub blanked_copied : {P : Type 0} (bytes : P → Option (List ℕ)) (g kept : GuestOf) (file copied : P) (marks marked cells noted : ValueMap) (Wrote : List ℕ → Type 0) → copied ≡ file → kept ≡ g → marked ≡ marks → noted ≡ cells
    → ((map : FrameMap) → behind_after marked kept.frames (bytes copied) noted 0 ≡ maps.entries map → is_some (bytes copied) ≡ true → Wrote (canon_any (with_frames g map)))
    → (all : List ℕ) → bytes file ≡ Some all → Wrote (blanked_text g marks cells all)
blanked_copied bytes g kept file copied marks marked cells noted Wrote same whole alike placed wrote all is =
    let told : bytes copied ≡ Some all = ap bytes same ∙ is in
    wrote (frames_behind marks g.frames (frames_in_file (Some all) cells))
    (ap (λ t. behind_after marked kept.frames t noted 0) told ∙ (λ i. behind_after (alike i) (whole i).frames (Some all) (placed i) 0)
    ∙ from_zero (maps.entries (frames_behind marks g.frames (frames_in_file (Some all) cells)))) (ap is_some told)

-- the same of the outline in its blank form
pub text_of_blank : {P : Type 0} (bytes : P → Option (List ℕ)) (placed : PlacedGuest P) (g : GuestOf) (marks : ValueMap) (told left : Option (List ℕ)) → g ≡ blank placed.outline
    → FindsAll bytes placed.file.now (blanked_text (blank placed.outline) marks placed.places) AcceptedStream told left → FindsAll bytes placed.file.now (blanked_text g marks placed.places) AcceptedStream told left
text_of_blank bytes placed g marks told left is = subst (λ (h : GuestOf). FindsAll bytes placed.file.now (blanked_text h marks placed.places) AcceptedStream told left) (sym is)

-- want of memory says nothing
pub starved_says : (Done Part : List ℕ → Type 0) (Refuses : Refusing) (told left : Option (List ℕ)) → OutcomeSays Done Part Refuses told left outcomes.Memory
starved_says Done Part Refuses None left = tt
starved_says Done Part Refuses (Some input) left = tt
