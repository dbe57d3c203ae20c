-- What comes of a file whose pages are read again where the image of its guest is written.
use Rattle.mig_tool_guest.proofs.Common.{inl, inr, Appends, AppendsPart, ComesTo, Effects, GuestOf, Hvm, InputRises, IsBase, IsCarried, List, None, Ok, Option, Outcome, OutputRises, PartWritten, Some, ap, AcceptedStream, accepted_is_stream, refl, restore_promise, restored_text, status_of, stream_at, subst, sym, ℕ, ◌≡◌, ◌⊎◌, ◌∙◌, AreBytes, AgreesWithJudging, with_frames, FrameMap, Cause, Place, IsPlacedStream, accepted_carried, guest_of, ValueMap, all_placed, frames_in_file, frames_after, PlacedGuest, restore_file_promise, same_Some, IfSome, is_some, true}
use Rattle.mig_host.specs.Hosted.{CanBeHosted}
use Rattle.mig_tool_guest.proofs.Placed.{IsCopied, may_write, never_usage, same_guest}
use Rattle.mig_tool_guest.proofs.Reporting.{base_fits, whole_few, whole_restored}
use Rattle.mig_tool_guest.proofs.Says.{RestoreComes}
use Rattle.mig_tool_report.specs.declared.outcome.Outcome.TheVariants as outcomes
use Rattle.mig_tool_report.specs.declared.status.Status.TheVariants as statuses
use Rattle.std.specs.FinMap as maps

-- ---- the guest with its pages in the file

abbrev pub guest_there : {P : Type 0} → PlacedGuest P → List ℕ → GuestOf
guest_there placed all = with_frames placed.outline (frames_in_file (Some all) placed.places)

-- an accepted front of the input: its guest is the one that was noted
pub record FoundGuest {P : Type 0} (bytes : P → Option (List ℕ)) (placed : PlacedGuest P) (left : Option (List ℕ)) (input : List ℕ) : Type 0 where
  pub guest : GuestOf
  pub rest : List ℕ
  pub accepted : AcceptedStream input guest rest
  pub left_is : left ≡ Some rest
  pub carried : IsCarried guest
  pub all : List ℕ
  pub told : bytes placed.file.now ≡ Some all
  pub same : guest_there placed all ≡ guest

-- of every input that is told
abbrev pub FindsGuest : {P : Type 0} → (P → Option (List ℕ)) → PlacedGuest P → (told left : Option (List ℕ)) → Type 0
FindsGuest bytes placed told left = (input : List ℕ) → told ≡ Some input → FoundGuest bytes placed left input

module _ {P : Type 0} (bytes : P → Option (List ℕ)) (placed : PlacedGuest P) where
  pub found_guest : placed.outline.kind ≡ Hvm → (told left : Option (List ℕ)) → IfSome told AreBytes → AgreesWithJudging {C = Place × Cause} (IsPlacedStream bytes) told left stream_at (Ok placed) → FindsGuest bytes placed told left
  found_guest hvm None left are read input is = absurd (cc)
  found_guest hvm (Some input) left are (s, rest, accepts, left_is, h) other is =
      let accepted : AcceptedStream input (guest_of h.image s) rest = record { stream = s; image = h.image; spelled = accepted_is_stream input s rest accepts; image_is = h.is; means = refl } in
      subst (FoundGuest bytes placed left) (same_Some input other is)
      (record {
        guest = guest_of h.image s;
        rest = rest;
        accepted = accepted;
        left_is = left_is;
        carried = accepted_carried input (guest_of h.image s) rest are accepted;
        all = h.all;
        told = h.told;
        same = ap (λ fs. with_frames placed.outline fs) h.frames ∙ same_guest h.image s placed.outline h.guest hvm;
      })

-- ---- what writing its image comes to

-- of this guest, where it can be hosted, the image was written, whole or in part
abbrev pub ImageWritten : {P : Type 0} → (P → Option (List ℕ)) → PlacedGuest P → ℕ → (List ℕ → Type 0) → Type 0
ImageWritten bytes placed base Wrote = (all : List ℕ) → bytes placed.file.now ≡ Some all → CanBeHosted base (guest_there placed all) → Wrote (restored_text base (guest_there placed all))

module _ {P : Type 0} (bytes : P → Option (List ℕ)) (placed : PlacedGuest P) (base : ℕ) (range : IsBase base) (told left old new : Option (List ℕ)) (found : FindsGuest bytes placed told left) (outcome : Outcome) where
  -- what was written is of the guest that was found
  image_found : (Wrote : List ℕ → Type 0) → ImageWritten bytes placed base Wrote → (input : List ℕ) (is : told ≡ Some input) → Wrote (restored_text base (found input is).guest)
  image_found Wrote wrote input is =
      let f = found input is in
      let fits : CanBeHosted base f.guest = record { whole = f.carried.whole; inside = base_fits f.guest base (whole_few f.guest f.carried.whole) range } in
      subst (λ g. Wrote (restored_text base g)) f.same (wrote f.all f.told (subst (CanBeHosted base) (sym f.same) fits))

  pub image_part : ImageWritten bytes placed base (AppendsPart old new) → (input : List ℕ) → told ≡ Some input → PartWritten AcceptedStream (restored_text base) input left old new
  image_part wrote input is =
      let f = found input is in
      record { guest = f.guest; rest = f.rest; accepted = f.accepted; left_is = f.left_is; wrote = image_found (AppendsPart old new) wrote input is }

  pub came_image : (outcome ≡ outcomes.Done → ImageWritten bytes placed base (Appends old new)) → ((outcome ≡ outcomes.WriteFault) ⊎ (outcome ≡ outcomes.ReadFault) → ImageWritten bytes placed base (AppendsPart old new))
      → IsCopied outcome → RestoreComes base told left old new outcome
  came_image done part answers = by told refl answers
    where
      by : (t : Option (List ℕ)) → told ≡ t → IsCopied outcome → RestoreComes base t left old new outcome
      by None is answers = tt
      by (Some input) is (inl ends) =
          let f = found input is in
          subst (RestoreComes base (Some input) left old new) (sym ends) (whole_restored base input f.rest left old new f.guest f.accepted f.left_is f.carried range (image_found (Appends old new) (done ends) input is))
      by (Some input) is (inr (inl ends)) = subst (RestoreComes base (Some input) left old new) (sym ends) (image_part (part (inl ends)) input is)
      by (Some input) is (inr (inr ends)) = subst (RestoreComes base (Some input) left old new) (sym ends) tt

pub image_comes : (base : ℕ) (e : Effects) (outcome : Outcome) → RestoreComes base e.input.told e.input.left e.out.old e.out.new outcome → IsCopied outcome
    → InputRises (status_of outcome) e.input.failed e.input.failed_now → OutputRises (status_of outcome) e.out.failed e.out.failed_now → ComesTo (restore_file_promise base) e outcome
image_comes base e outcome said answers read write = record { said = said; known = never_usage outcome answers; kept = λ never. absurd (never (may_write outcome answers)); read = read; write = write }

-- ---- the image that is written

-- what a writer does with the frames of these places in this file, it does with those that they read as there
pub image_copied : {P : Type 0} (bytes : P → Option (List ℕ)) (g : GuestOf) (base : ℕ) (file copied : P) (cells noted : ValueMap) (Wrote : List ℕ → Type 0) → copied ≡ file → noted ≡ cells
    → ((map : FrameMap) → frames_after (bytes copied) noted 0 ≡ maps.entries map → is_some (bytes copied) ≡ true → CanBeHosted base (with_frames g map) → Wrote (restored_text base (with_frames g map)))
    → (all : List ℕ) → bytes file ≡ Some all → CanBeHosted base (with_frames g (frames_in_file (Some all) cells)) → Wrote (restored_text base (with_frames g (frames_in_file (Some all) cells)))
image_copied bytes g base file copied cells noted Wrote same alike wrote all is fits =
    let told : bytes copied ≡ Some all = ap bytes same ∙ is in
    wrote (frames_in_file (Some all) cells) (ap (λ t. frames_after t noted 0) told ∙ ap (λ cs. frames_after (Some all) cs 0) alike ∙ all_placed (Some all) cells) (ap is_some told) fits
