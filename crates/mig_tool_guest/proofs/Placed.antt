-- What comes of a file whose pages are read again where they are written.
use Rattle.mig_tool_guest.proofs.Common.{inl, inr, Appends, AppendsPart, AcceptedLegacy, Outcome, OutcomeSays, Refusing, ◌⊎◌, ◌≡◌, ◌∙◌, ◌++◌, ℕ, List, Option, Some, None, Ok, refl, sym, ap, subst, GuestOf, AcceptedStream, Accepting, Hvm, HasFront, IsCarried, Normalised, PartWritten, InputRises, OutputRises, ComesTo, Effects, status_of, accepted_is_stream, canon_any, stream_at, AreBytes, AgreesWithJudging, with_frames, left_in, FileSource, FrameMap, Cause, Place, IsPlacedLegacy, legacy_at, IsPlacedStream, accepted_carried, with_emulators, StreamOf, emulators_in, guest_of, outline, ValueMap, all_placed, frames_in_file, frames_after, PlacedGuest, sent_kind, mean, sent, ImageOf, normalise_file_promise, same_Some}
use Rattle.mig_tool_guest.proofs.Reporting.{accepted_legacy, text_part, whole_text}
use Rattle.mig_headers.specs.declared.legacy_fault.LegacyCause.{LegacyCause}
use Rattle.mig_headers.specs.declared.legacy_fault.LegacyPlace.{LegacyPlace}
use Rattle.mig_legacy.proofs.AcceptedWhole.{accepted_legacy_whole}
use Rattle.mig_legacy.specs.Legacy.{LegacyStream, device_model, image_records, mean_legacy, tail_records}
use Rattle.mig_pvtables.specs.Blank.{blank_of}
use Rattle.mig_tool_report.specs.Promises.{copies_text}
use Rattle.mig_tool_report.specs.declared.outcome.Outcome.TheVariants as outcomes
use Rattle.std.proofs.lemmas.List.Elements.{All-drop}
use Rattle.std.specs.FinMap as maps
use Rattle.std.specs.Option.{option_map}
use Rattle.std.specs.Prelude.{IfSome, drop, is_some, true, ◌<◌}

-- what an image sends of an HVM guest is what it means
hvm_sent : (image : ImageOf) → image.opening.kind ≡ Hvm → mean image.opening.kind image.records ≡ sent image.opening.kind image.records
unfolding mean
hvm_sent image hvm = ap (λ k. blank_of k (sent image.opening.kind image.records)) (sent_kind image.opening.kind image.records ∙ hvm)

-- an outline, with the frames that its places read as, is the guest that is meant
pub same_guest : (image : ImageOf) (s : StreamOf) (g : GuestOf) → g ≡ with_emulators (outline (sent image.opening.kind image.records)) (emulators_in s) → g.kind ≡ Hvm
    → with_frames g (sent image.opening.kind image.records).frames ≡ guest_of image s
same_guest image s g is hvm =
    let kind : image.opening.kind ≡ Hvm = sym (sent_kind image.opening.kind image.records) ∙ sym (ap (λ (h : GuestOf). h.kind) is) ∙ hvm in
    ap (λ (h : GuestOf). with_frames h (sent image.opening.kind image.records).frames) is
    ∙ ap (λ (h : GuestOf). with_emulators h (emulators_in s)) (sym (hvm_sent image kind))

-- the same of a legacy stream
same_legacy : (s : LegacyStream) (g : GuestOf) → g ≡ with_emulators (outline (sent Hvm (image_records s.chunks ++ tail_records s.tail))) (device_model s)
    → with_frames g (sent Hvm (image_records s.chunks ++ tail_records s.tail)).frames ≡ mean_legacy s
unfolding mean_legacy mean
same_legacy s g is =
    let records = image_records s.chunks ++ tail_records s.tail in
    ap (λ (h : GuestOf). with_frames h (sent Hvm records).frames) is
    ∙ ap (λ (h : GuestOf). with_emulators h (device_model s)) (sym (ap (λ k. blank_of k (sent Hvm records)) (sent_kind Hvm records)))

-- ---- the text of a guest with its pages in the file

abbrev pub text_in : {P : Type 0} → PlacedGuest P → List ℕ → List ℕ
text_in placed all = canon_any (with_frames placed.outline (frames_in_file (Some all) placed.places))

-- an accepted front of the input: the text of its guest is what stands for it with the bytes of the file
pub record Found {P : Type 0} (bytes : P → Option (List ℕ)) (file : P) (written : List ℕ → List ℕ) (Accepts : Accepting) (left : Option (List ℕ)) (input : List ℕ) : Type 0 where
  pub guest : GuestOf
  pub rest : List ℕ
  pub accepted : Accepts input guest rest
  pub left_is : left ≡ Some rest
  pub carried : IsCarried guest
  pub all : List ℕ
  pub told : bytes file ≡ Some all
  pub text : written all ≡ canon_any guest

-- of every input that is told
abbrev pub FindsAll : {P : Type 0} → (P → Option (List ℕ)) → P → (List ℕ → List ℕ) → Accepting → (told left : Option (List ℕ)) → Type 0
FindsAll bytes file written Accepts told left = (input : List ℕ) → told ≡ Some input → Found bytes file written Accepts left input

module _ {P : Type 0} (bytes : P → Option (List ℕ)) (placed : PlacedGuest P) where
  pub found_stream : placed.outline.kind ≡ Hvm → (told left : Option (List ℕ)) → IfSome told AreBytes → AgreesWithJudging {C = Place × Cause} (IsPlacedStream bytes) told left stream_at (Ok placed) → FindsAll bytes placed.file.now (text_in placed) AcceptedStream told left
  found_stream hvm None left are read input is = absurd (cc)
  found_stream hvm (Some input) left are (s, rest, accepts, left_is, h) other is =
      let accepted : AcceptedStream input (guest_of h.image s) rest = record { stream = s; image = h.image; spelled = accepted_is_stream input s rest accepts; image_is = h.is; means = refl } in
      subst (Found bytes placed.file.now (text_in placed) AcceptedStream left) (same_Some input other is)
      (record {
        guest = guest_of h.image s;
        rest = rest;
        accepted = accepted;
        left_is = left_is;
        carried = accepted_carried input (guest_of h.image s) rest are accepted;
        all = h.all;
        told = h.told;
        text = ap (λ fs. canon_any (with_frames placed.outline fs)) h.frames ∙ ap canon_any (same_guest h.image s placed.outline h.guest hvm);
      })

  pub found_legacy : (told left : Option (List ℕ)) → IfSome told AreBytes → AgreesWithJudging {C = LegacyPlace × LegacyCause} (IsPlacedLegacy bytes) told left legacy_at (Ok placed) → FindsAll bytes placed.file.now (text_in placed) AcceptedLegacy told left
  found_legacy None left are read input is = absurd (cc)
  found_legacy (Some input) left are (s, rest, accepts, left_is, h) other is =
      let accepted = accepted_legacy input rest s (mean_legacy s) accepts refl in
      let whole = accepted_legacy_whole input (mean_legacy s) rest are accepted in
      subst (Found bytes placed.file.now (text_in placed) AcceptedLegacy left) (same_Some input other is)
      (record {
        guest = mean_legacy s;
        rest = rest;
        accepted = accepted;
        left_is = left_is;
        carried = record { whole = whole.0; blank = whole.1 };
        all = h.all;
        told = h.told;
        text = ap (λ fs. canon_any (with_frames placed.outline fs)) h.frames ∙ ap canon_any (same_legacy s placed.outline h.guest);
      })

-- ---- what copying it comes to

abbrev pub IsCopied : Outcome → Type 0
IsCopied outcome = (outcome ≡ outcomes.Done) ⊎ ((outcome ≡ outcomes.WriteFault) ⊎ (outcome ≡ outcomes.ReadFault))

module _ {P : Type 0} (bytes : P → Option (List ℕ)) (file : P) (written : List ℕ → List ℕ) (Accepts : Accepting) (Refuses : Refusing) (told left old new : Option (List ℕ)) (found : FindsAll bytes file written Accepts told left) (outcome : Outcome) where
  abbrev Comes : Option (List ℕ) → Outcome → Type 0
  Comes t o = OutcomeSays (λ input. Normalised Accepts input left old new) (λ input. PartWritten Accepts canon_any input left old new) Refuses t left o

  pub part_copied : ((all : List ℕ) → bytes file ≡ Some all → AppendsPart old new (written all)) → (input : List ℕ) → told ≡ Some input → PartWritten Accepts canon_any input left old new
  part_copied wrote input is =
      let f = found input is in
      text_part Accepts input f.rest left old new f.guest f.accepted f.left_is (subst (AppendsPart old new) f.text (wrote f.all f.told))

  pub came_copied : (outcome ≡ outcomes.Done → (all : List ℕ) → bytes file ≡ Some all → Appends old new (written all))
      → ((outcome ≡ outcomes.WriteFault) ⊎ (outcome ≡ outcomes.ReadFault) → (all : List ℕ) → bytes file ≡ Some all → AppendsPart old new (written all))
      → IsCopied outcome → Comes told outcome
  came_copied done part answers = by told refl answers
    where
      by : (t : Option (List ℕ)) → told ≡ t → IsCopied outcome → Comes t outcome
      by None is answers = tt
      by (Some input) is (inl ends) =
          let f = found input is in
          subst (Comes (Some input)) (sym ends) (whole_text Accepts input f.rest left old new f.guest f.accepted f.left_is f.carried (subst (Appends old new) f.text (done ends f.all f.told)))
      by (Some input) is (inr (inl ends)) = subst (Comes (Some input)) (sym ends) (part_copied (part (inl ends)) input is)
      by (Some input) is (inr (inr ends)) = subst (Comes (Some input)) (sym ends) tt

-- with each of these the output may be written
pub may_write : (outcome : Outcome) → IsCopied outcome → normalise_file_promise.MayWrite (status_of outcome)
may_write outcome (inl is) = inl (ap status_of is)
may_write outcome (inr (inl is)) = inr (inl (ap status_of is))
may_write outcome (inr (inr is)) = inr (inr (ap status_of is))

pub never_usage : (outcome : Outcome) → IsCopied outcome → outcome ≡ outcomes.Usage → ⊥
never_usage outcome (inl is) u = cc
never_usage outcome (inr (inl is)) u = cc
never_usage outcome (inr (inr is)) u = cc

pub copy_comes : (Accepts : Accepting) (Refuses : Refusing) (e : Effects) (outcome : Outcome)
    → OutcomeSays (λ input. Normalised Accepts input e.input.left e.out.old e.out.new) (λ input. PartWritten Accepts canon_any input e.input.left e.out.old e.out.new) Refuses e.input.told e.input.left outcome → IsCopied outcome
    → InputRises (status_of outcome) e.input.failed e.input.failed_now → OutputRises (status_of outcome) e.out.failed e.out.failed_now → ComesTo (copies_text (HasFront Accepts) Refuses (Normalised Accepts) (PartWritten Accepts canon_any)) e outcome
copy_comes Accepts Refuses e outcome said answers read write = record { said = said; known = never_usage outcome answers; kept = λ never. absurd (never (may_write outcome answers)); read = read; write = write }

-- ---- the text that is copied

-- what a writer does with the frames of these places in this file, it does with those that they read as there
pub frames_copied : {P : Type 0} (bytes : P → Option (List ℕ)) (g : GuestOf) (file copied : P) (cells noted : ValueMap) (Wrote : List ℕ → Type 0) → copied ≡ file → noted ≡ cells
    → ((map : FrameMap) → frames_after (bytes copied) noted 0 ≡ maps.entries map → is_some (bytes copied) ≡ true → Wrote (canon_any (with_frames g map)))
    → (all : List ℕ) → bytes file ≡ Some all → Wrote (canon_any (with_frames g (frames_in_file (Some all) cells)))
frames_copied bytes g file copied cells noted Wrote same alike wrote all is =
    let told : bytes copied ≡ Some all = ap bytes same ∙ is in
    wrote (frames_in_file (Some all) cells) (ap (λ t. frames_after t noted 0) told ∙ ap (λ cs. frames_after (Some all) cs 0) alike ∙ all_placed (Some all) cells) (ap is_some told)

-- what is left of a file of bytes is of bytes
dropped : (n : ℕ) (o : Option (List ℕ)) → IfSome o AreBytes → IfSome (option_map (drop n) o) AreBytes
dropped n None are = tt
dropped n (Some all) are = All-drop (λ b. b < 256) n all are

pub told_bytes : {P : Type 0} (bytes : P → Option (List ℕ)) (s : FileSource P) → IfSome (bytes s.file.now) AreBytes → IfSome (left_in bytes s) AreBytes
told_bytes bytes s are = dropped s.at (bytes s.file.now) are

pub told_bytes_of : {P : Type 0} (bytes : P → Option (List ℕ)) (s : FileSource P) (file : P) → file ≡ s.file.now → IfSome (bytes file) AreBytes → IfSome (left_in bytes s) AreBytes
told_bytes_of bytes s file same are = told_bytes bytes s (subst (λ f. IfSome (bytes f) AreBytes) same are)
