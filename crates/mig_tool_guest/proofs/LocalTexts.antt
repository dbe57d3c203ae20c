-- What comes of a PV guest whose pages are read again where the image of its host is written.
use Rattle.mig_tool_guest.proofs.Common.{inl, inr, ◌≡◌, ◌⊎◌, ◌∙◌, ℕ, List, Option, Some, None, Ok, refl, sym, ap, subst, Appends, AppendsPart, GuestOf, Hvm, Pv, AcceptedStream, IsCarried, PartWritten, IsBase, restored_text, Outcome, accepted_is_stream, stream_at, AreBytes, AgreesWithJudging, FrameMap, Cause, Place, IsPlacedStream, accepted_carried, StreamOf, emulators_in, guest_of, outline, ValueMap, frames_in_file, PlacedGuest, sent_kind, mean_kind, mean, sent, ImageOf, same_Some, IfSome, is_some, true}
use Rattle.mig_guest.proofs.NextEntries.{from_zero}
use Rattle.mig_guest.specs.Formed.{IsFormed, IsTop}
use Rattle.mig_headers.specs.declared.kind.Kind.{Kind}
use Rattle.mig_host.specs.Hosted.{CanBeHosted, mfn_in}
use Rattle.mig_host_view.specs.Localised.{localised, localised_of}
use Rattle.mig_image.proofs.Parts.{parts_localised}
use Rattle.mig_image.specs.Behind.{HaveRoom}
use Rattle.mig_libxl_form.proofs.Alone.{pv_alone}
use Rattle.mig_libxl_form.proofs.EmulatorGuests.{none_set}
use Rattle.mig_libxl_form.specs.Emulators.{no_emulators, with_emulators}
use Rattle.mig_localised.proofs.Localised.{stands_for}
use Rattle.mig_localised.proofs.Seated.{seated_formed}
use Rattle.mig_localised.specs.Over.{IsInMachine, frames_over, guest_over, over_after, seated}
use Rattle.mig_pagetypes.specs.Limits.{top_limit}
use Rattle.mig_pvtables.proofs.BlankFormed.{blank_is_formed}
use Rattle.mig_pvtables.specs.Blank.{blank, blank_of}
use Rattle.mig_tool_guest.proofs.Placed.{IsCopied}
use Rattle.mig_tool_guest.proofs.Reporting.{base_fits, whole_few, whole_restored}
use Rattle.mig_tool_guest.proofs.Says.{RestoreComes}
use Rattle.mig_tool_report.specs.declared.outcome.Outcome.TheVariants as outcomes
use Rattle.std.proofs.Common.{◌<◌}
use Rattle.std.specs.FinMap as maps

-- the guest that an outline as it stands in the machine stands for, with the frames at these places of a file
abbrev pub guest_in_file : GuestOf → ValueMap → List ℕ → GuestOf
guest_in_file there cells all = guest_over there (frames_in_file (Some all) cells)

-- an accepted front of the input: its guest, as it stands in the machine, is the one that is kept
pub record FoundThere {P : Type 0} (bytes : P → Option (List ℕ)) (file : P) (base : ℕ) (over : List ℕ → GuestOf) (left : Option (List ℕ)) (input : List ℕ) : Type 0 where
  pub guest : GuestOf
  pub rest : List ℕ
  pub accepted : AcceptedStream input guest rest
  pub left_is : left ≡ Some rest
  pub carried : IsCarried guest
  pub all : List ℕ
  pub told : bytes file ≡ Some all
  pub pv : guest.kind ≡ Pv
  pub same : over all ≡ localised (mfn_in guest.frames base) guest

-- of every input that is told
abbrev pub FindsThere : {P : Type 0} → (P → Option (List ℕ)) → P → ℕ → (List ℕ → GuestOf) → (told left : Option (List ℕ)) → Type 0
FindsThere bytes file base over told left = (input : List ℕ) → told ≡ Some input → FoundThere bytes file base over left input

abbrev sent_in : ImageOf → GuestOf
sent_in image = sent image.opening.kind image.records

-- the outline of a PV guest that was sent, with no emulators, stands for the guest that is meant
same_there : (image : ImageOf) (s : StreamOf) (g there : GuestOf) (base : ℕ) → emulators_in s ≡ no_emulators → g ≡ with_emulators (outline (sent_in image)) (emulators_in s) → g.kind ≡ Pv
    → IsInMachine base g there → guest_over there (sent_in image).frames ≡ localised (mfn_in (guest_of image s).frames base) (guest_of image s)
unfolding mean
same_there image s g there base alone is pv h =
    let same : g ≡ outline (sent_in image) = is ∙ ap (with_emulators (outline (sent_in image))) alone ∙ none_set (outline (sent_in image)) in
    let kind : (sent_in image).kind ≡ Pv = sym (ap (λ (h : GuestOf). h.kind) same) ∙ pv in
    stands_for (sent_in image) there base kind (subst (λ (o : GuestOf). IsInMachine base o there) same h)
    ∙ ap (λ (x : GuestOf). localised (mfn_in x.frames base) x) (sym (ap (with_emulators (mean image.opening.kind image.records)) alone ∙ none_set (mean image.opening.kind image.records)))

module _ {P : Type 0} (bytes : P → Option (List ℕ)) (placed : PlacedGuest P) (base : ℕ) (there : GuestOf) (pv : placed.outline.kind ≡ Pv) (inside : IsInMachine base placed.outline there) where
  pub found_there : (told left : Option (List ℕ)) → IfSome told AreBytes → AgreesWithJudging {C = Place × Cause} (IsPlacedStream bytes) told left stream_at (Ok placed)
      → FindsThere bytes placed.file.now base (guest_in_file there placed.places) told left
  found_there None left are read input is = absurd (cc)
  found_there (Some input) left are (s, rest, accepts, left_is, h) other is =
      let accepted : AcceptedStream input (guest_of h.image s) rest = record { stream = s; image = h.image; spelled = accepted_is_stream input s rest accepts; image_is = h.is; means = refl } in
      let kind : h.image.opening.kind ≡ Pv = sym (sent_kind h.image.opening.kind h.image.records) ∙ sym (ap (λ (g : GuestOf). g.kind) h.guest) ∙ pv in
      let alone = pv_alone input s rest h.image accepted.spelled h.is kind in
      subst (FoundThere bytes placed.file.now base (guest_in_file there placed.places) left) (same_Some input other is)
      (record {
        guest = guest_of h.image s;
        rest = rest;
        accepted = accepted;
        left_is = left_is;
        carried = accepted_carried input (guest_of h.image s) rest are accepted;
        all = h.all;
        told = h.told;
        pv = mean_kind h.image.opening.kind h.image.records ∙ kind;
        same = ap (λ fs. guest_over there fs) h.frames ∙ same_there h.image s placed.outline there base alone h.guest pv inside;
      })

-- ---- what writing its image comes to

-- of the guest that it is there, the image was written, whole or in part
abbrev pub ThereWritten : {P : Type 0} → (P → Option (List ℕ)) → P → ℕ → (List ℕ → GuestOf) → (List ℕ → Type 0) → Type 0
ThereWritten bytes file base over Wrote =
    (all : List ℕ) (meant : GuestOf) → bytes file ≡ Some all → meant.kind ≡ Pv → CanBeHosted base meant → over all ≡ localised (mfn_in meant.frames base) meant → Wrote (restored_text base meant)

module _ {P : Type 0} (bytes : P → Option (List ℕ)) (file : P) (base : ℕ) (over : List ℕ → GuestOf) (range : IsBase base) (told left old new : Option (List ℕ)) (found : FindsThere bytes file base over told left) (outcome : Outcome) where
  there_found : (Wrote : List ℕ → Type 0) → ThereWritten bytes file base over Wrote → (input : List ℕ) (is : told ≡ Some input) → Wrote (restored_text base (found input is).guest)
  there_found Wrote wrote input is =
      let f = found input is in
      wrote f.all f.guest f.told f.pv (record { whole = f.carried.whole; inside = base_fits f.guest base (whole_few f.guest f.carried.whole) range }) f.same

  pub there_part : ThereWritten bytes file base over (AppendsPart old new) → (input : List ℕ) → told ≡ Some input → PartWritten AcceptedStream (restored_text base) input left old new
  there_part wrote input is =
      let f = found input is in
      record { guest = f.guest; rest = f.rest; accepted = f.accepted; left_is = f.left_is; wrote = there_found (AppendsPart old new) wrote input is }

  pub came_there : (outcome ≡ outcomes.Done → ThereWritten bytes file base over (Appends old new)) → ((outcome ≡ outcomes.WriteFault) ⊎ (outcome ≡ outcomes.ReadFault) → ThereWritten bytes file base over (AppendsPart old new))
      → IsCopied outcome → RestoreComes base told left old new outcome
  came_there done part answers = by told refl answers
    where
      by : (t : Option (List ℕ)) → told ≡ t → IsCopied outcome → RestoreComes base t left old new outcome
      by None is answers = tt
      by (Some input) is (inl ends) =
          let f = found input is in
          subst (RestoreComes base (Some input) left old new) (sym ends) (whole_restored base input f.rest left old new f.guest f.accepted f.left_is f.carried range (there_found (Appends old new) (done ends) input is))
      by (Some input) is (inr (inl ends)) = subst (RestoreComes base (Some input) left old new) (sym ends) (there_part (part (inl ends)) input is)
      by (Some input) is (inr (inr ends)) = subst (RestoreComes base (Some input) left old new) (sym ends) tt

-- what a writer does with the frames that an outline stands for, it does with the guest
pub there_copied : {P : Type 0} (bytes : P → Option (List ℕ)) (g kept : GuestOf) (base : ℕ) (file copied : P) (cells noted : ValueMap) (Wrote : List ℕ → Type 0) → copied ≡ file → kept ≡ g → noted ≡ cells
    → ((meant : GuestOf) (map : FrameMap) → over_after kept.frames (bytes copied) noted 0 ≡ maps.entries map → is_some (bytes copied) ≡ true → meant.kind ≡ Pv → CanBeHosted base meant → record g { frames = map } ≡ localised (mfn_in meant.frames base) meant → Wrote (restored_text base meant))
    → ThereWritten bytes file base (guest_in_file g cells) Wrote
there_copied bytes g kept base file copied cells noted Wrote same whole placed wrote all meant is pv fits alike =
    let told : bytes copied ≡ Some all = ap bytes same ∙ is in
    wrote meant (frames_over g.frames (frames_in_file (Some all) cells))
    (ap (λ t. over_after kept.frames t noted 0) told ∙ (λ i. over_after (whole i).frames (Some all) (placed i) 0)
    ∙ from_zero (maps.entries (frames_over g.frames (frames_in_file (Some all) cells)))) (ap is_some told) pv fits alike

-- ---- an outline as it stands in the machine

module _ (g there : GuestOf) (base : ℕ) (pv : g.kind ≡ Pv) (formed : IsFormed g) (h : IsInMachine base g there) where
  abbrev bare : GuestOf
  bare = seated h.marks (blank g)

  bare_kind : bare.kind ≡ Pv
  bare_kind = ap (λ k. (blank_of k g).kind) pv ∙ pv

  pub room_there : HaveRoom there.parts
  room_there = subst (λ (x : GuestOf). HaveRoom x.parts) (sym h.is) (parts_localised bare (mfn_in bare.frames base) bare_kind (seated_formed h.marks (blank g) (blank_is_formed g formed)))

  pub top_there : there.top < top_limit
  top_there =
      subst (λ n. n < top_limit) (sym (ap (λ (x : GuestOf). x.top) h.is ∙ ap (λ k. (localised_of k (mfn_in bare.frames base) bare).top) bare_kind ∙ ap (λ k. (blank_of k g).top) pv))
      (subst (λ (k : Kind). IsTop k g.top) pv formed.top)
