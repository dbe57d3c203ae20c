-- What an address means in the guest of a stream in a file, of which the outline and the places of its pages are kept.
use Rattle.mig_tool_guest.proofs.Common.{◌≡◌, ◌∙◌, ℕ, List, Option, Some, None, Ok, Err, Result, refl, sym, ap, GuestOf, AcceptedStream, Outcome, WalkSummary, accepted_is_stream, stream_at, AreBytes, AgreesWithJudging, Cause, Place, IsPlacedStream, accepted_carried, StreamOf, emulators_in, guest_of, outline, ValueMap, frames_in_file, PlacedGuest, sent_kind, mean, sent, ImageOf, IfSome, IfOk, IfErr, Hvm, with_emulators, in_stream, MeansFrame, Standing}
use Rattle.mig_headers.specs.declared.kind.Kind.{Kind}
use Rattle.mig_headers.specs.declared.kind.Kind.TheVariants.{Pv}
use Rattle.mig_libxl_form.proofs.Alone.{pv_alone}
use Rattle.mig_libxl_form.proofs.EmulatorGuests.{none_set}
use Rattle.mig_libxl_form.specs.Emulators.{no_emulators}
use Rattle.mig_pvtables.specs.Blank.{blank, blank_of}
use Rattle.mig_pvtables.specs.Whole.{IsWhole}
use Rattle.mig_tool_guest.specs.AddressSteps.{EndsOrStarves, FindsInStream}
use Rattle.mig_tool_report.specs.declared.outcome.Outcome.TheVariants as outcomes
use Rattle.mig_tool_report.specs.declared.outcome.Refusal.TheVariants as refusals
use Rattle.mig_walk.proofs.Outlines.{stands_for_guest}
use Rattle.mig_walk.specs.Outlined.{StandForGuest, in_outline}

abbrev sent_in : ImageOf → GuestOf
sent_in image = sent image.opening.kind image.records

-- what an image means is the blank form of what it sends
meant : (image : ImageOf) → blank (sent_in image) ≡ mean image.opening.kind image.records
unfolding mean
meant image = refl

module _ (image : ImageOf) (s : StreamOf) (g : GuestOf) (cells : ValueMap) (all : List ℕ) (is : g ≡ with_emulators (outline (sent_in image)) (emulators_in s))
    (read : frames_in_file (Some all) cells ≡ (sent_in image).frames) (alone : image.opening.kind ≡ Pv → emulators_in s ≡ no_emulators) where
  stands_blank : in_outline (blank (outline (sent_in image))) cells ≡ in_stream (blank (sent_in image))
  stands_blank = stands_for_guest (sent_in image) (Some all) cells read

  by_kind : (k : Kind) → image.opening.kind ≡ k → StandForGuest (blank g) cells (guest_of image s)
  by_kind Pv kind =
      let none = alone kind in
      let same : g ≡ outline (sent_in image) = is ∙ ap (with_emulators (outline (sent_in image))) none ∙ none_set (outline (sent_in image)) in
      ap (λ (h : GuestOf). in_outline (blank h) cells) same ∙ stands_blank
      ∙ ap in_stream (meant image ∙ sym (ap (with_emulators (mean image.opening.kind image.records)) none ∙ none_set (mean image.opening.kind image.records)))
  by_kind Hvm kind =
      let hvm : (sent_in image).kind ≡ Hvm = sent_kind image.opening.kind image.records ∙ kind in
      let whole = with_emulators (outline (sent_in image)) (emulators_in s) in
      let bare : in_outline (outline (sent_in image)) cells ≡ in_stream (sent_in image) =
      ap (λ k. in_outline (blank_of k (outline (sent_in image))) cells) (sym hvm) ∙ stands_blank ∙ ap (λ k. in_stream (blank_of k (sent_in image))) hvm in
      let same : sent_in image ≡ mean image.opening.kind image.records = sym (ap (λ k. blank_of k (sent_in image)) hvm) ∙ meant image in
      ap (λ (h : GuestOf). in_outline (blank h) cells) is ∙ ap (λ k. in_outline (blank_of k whole) cells) hvm
      ∙ ap (λ (t : Standing). record t { parts = whole.parts }) bare ∙ ap (λ (h : GuestOf). in_stream (with_emulators h (emulators_in s))) same

  pub stands_placed : StandForGuest (blank g) cells (guest_of image s)
  stands_placed = by_kind image.opening.kind refl

module _ {P : Type 0} (bytes : P → Option (List ℕ)) (placed : PlacedGuest P) (id at : ℕ) (r : Result WalkSummary Outcome)
    (frame : (g : GuestOf) → StandForGuest (blank placed.outline) placed.places g → IsWhole g → IfOk r (MeansFrame (in_stream g) id at))
    (none : (g : GuestOf) → StandForGuest (blank placed.outline) placed.places g → IsWhole g → IfErr r (EndsOrStarves (in_stream g) id at)) where
  pub placed_frame : (told left : Option (List ℕ)) → IfSome told AreBytes → AgreesWithJudging {C = Place × Cause} (IsPlacedStream bytes) told left stream_at (Ok placed) → FindsInStream id at told left r
  placed_frame None left are h = tt
  placed_frame (Some input) left are (s, rest, accepts, left_is, h) = by r (frame guest stand whole) (none guest stand whole)
    where
      guest : GuestOf
      guest = guest_of h.image s

      accepted : AcceptedStream input guest rest
      accepted = record { stream = s; image = h.image; spelled = accepted_is_stream input s rest accepts; image_is = h.is; means = refl }

      whole : IsWhole guest
      whole = (accepted_carried input guest rest are accepted).whole

      stand : StandForGuest (blank placed.outline) placed.places guest
      stand = stands_placed h.image s placed.outline placed.places h.all h.guest h.frames (λ pv. pv_alone input s rest h.image accepted.spelled h.is pv)

      by : (r : Result WalkSummary Outcome) → IfOk r (MeansFrame (in_stream guest) id at) → IfErr r (EndsOrStarves (in_stream guest) id at) → FindsInStream id at (Some input) left r
      by (Ok summary) frame none = record { guest = guest; rest = rest; accepted = accepted; left_is = left_is; means = frame }
      by (Err (outcomes.Refused (refusals.Walk end))) frame none = (rest, record { guest = guest; accepted = accepted; means = none }, left_is)
      by (Err outcomes.Memory) frame none = tt
      by (Err _) frame none = absurd none
