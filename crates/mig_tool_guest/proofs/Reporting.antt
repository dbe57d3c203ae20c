-- What a command answers.
use Rattle.mig_tool_guest.proofs.Common.{inl, inr, Appends, AppendsPart, Passes, AcceptedLegacy, StreamOf, ReadsStream, Outcome, Status, Reading, ◌⊎◌, ◌≡◌, ℕ, ◌++◌, List, arith, Option, Some, None, Result, Ok, Err, refl, sym, subst, GuestOf, AcceptedStream, Kind, Hvm, Pv, Accepting, Normalised, PartWritten, Restored, IsCarried, IsFew, IsBase, restored_text, InputRises, IsUnwritten, ComesTo, Effects, restore_promise, text_written, unwritten, status_of, accepted_is_stream, canon_any, stream_at, IsStreamReading, OutputRises, WriteFailed, LegacyStream, mean_legacy}
use Rattle.mig_tool_guest.proofs.Says.{ConvertComes, NormaliseComes, RestoreComes}
use Rattle.mig_host.proofs.HostedGuests.{whole_valid, whole_sound, whole_seen}
use Rattle.mig_host.specs.Hosted.{hosted, IsBaseOutside}
use Rattle.mig_image.proofs.ImageReads.{held, image_reads}
use Rattle.mig_image.specs.declared.version.GuestImageVersion.TheVariants.{Two}
use Rattle.mig_legacy.proofs.Laws.{accepted_is_legacy}
use Rattle.mig_legacy.specs.Stream.{ReadsLegacy, legacy_at}
use Rattle.mig_libxl.proofs.AnyCanons.{canon_is_accepted, canon_is_one_to_one}
use Rattle.mig_pvtables.proofs.HvmGuests.{hvm_complete}
use Rattle.mig_pvtables.proofs.PvGuests.{pv_complete}
use Rattle.mig_pvtables.specs.Whole.{IsWhole}
use Rattle.mig_tool_report.specs.declared.outcome.Outcome.TheVariants as outcomes
use Rattle.mig_tool_report.specs.declared.status.Status.TheVariants as statuses

-- ---- what a reading and a writing come to

pub accepted_front : (input rest : List ℕ) (stream : StreamOf) (reading : Reading) → stream_at input ≡ Passes stream rest → IsStreamReading reading stream → AcceptedStream input reading.guest rest
accepted_front input rest stream reading accepts is = record { stream = stream; image = is.image; spelled = accepted_is_stream input stream rest accepts; image_is = is.is; means = is.guest }

pub accepted_legacy : (input rest : List ℕ) (stream : LegacyStream) (guest : GuestOf) → legacy_at input ≡ Passes stream rest → guest ≡ mean_legacy stream → AcceptedLegacy input guest rest
accepted_legacy input rest stream guest accepts is = record { stream = stream; spelled = accepted_is_legacy input stream rest accepts; means = is }

-- what was written of a guest that was read from an accepted front
module _ (Accepts : Accepting) (input rest : List ℕ) (left old new : Option (List ℕ)) (guest : GuestOf) (accepted : Accepts input guest rest) (left_is : left ≡ Some rest) where
  pub whole_text : IsCarried guest → Appends old new (canon_any guest) → Normalised Accepts input left old new
  whole_text carried wrote = record {
    guest = guest;
    rest = rest;
    accepted = accepted;
    left_is = left_is;
    wrote = wrote;
    carried = carried;
    kept = λ more. canon_is_accepted guest more carried;
    alone = λ other too. canon_is_one_to_one other guest too carried;
  }

  pub text_part : AppendsPart old new (canon_any guest) → PartWritten Accepts canon_any input left old new
  text_part wrote = record { guest = guest; rest = rest; accepted = accepted; left_is = left_is; wrote = wrote }

module _ (told left old new : Option (List ℕ)) where
  pub came : (reading : Reading) (outcome : Outcome) → ReadsStream told left (Ok reading) → IsCarried reading.guest → (outcome ≡ outcomes.Done → Appends old new (canon_any reading.guest)) → (outcome ≡ outcomes.WriteFault → AppendsPart old new (canon_any reading.guest))
      → (outcome ≡ outcomes.Done) ⊎ (outcome ≡ outcomes.WriteFault) → NormaliseComes told left old new outcome
  came reading outcome h carried done part answers = by told h answers
    where
      by : (t : Option (List ℕ)) → ReadsStream t left (Ok reading) → (outcome ≡ outcomes.Done) ⊎ (outcome ≡ outcomes.WriteFault) → NormaliseComes t left old new outcome
      by None h answers = tt
      by (Some input) (stream, rest, accepts, left_is, is_read) (inl is) =
          subst (NormaliseComes (Some input) left old new) (sym is) (whole_text AcceptedStream input rest left old new reading.guest (accepted_front input rest stream reading accepts is_read) left_is carried (done is))
      by (Some input) (stream, rest, accepts, left_is, is_read) (inr is) =
          subst (NormaliseComes (Some input) left old new) (sym is) (text_part AcceptedStream input rest left old new reading.guest (accepted_front input rest stream reading accepts is_read) left_is (part is))

  pub came_of_legacy : (guest : GuestOf) (outcome : Outcome) → ReadsLegacy told left (Ok guest) → IsCarried guest → (outcome ≡ outcomes.Done → Appends old new (canon_any guest)) → (outcome ≡ outcomes.WriteFault → AppendsPart old new (canon_any guest))
      → (outcome ≡ outcomes.Done) ⊎ (outcome ≡ outcomes.WriteFault) → ConvertComes told left old new outcome
  came_of_legacy guest outcome h carried done part answers = by told h answers
    where
      by : (t : Option (List ℕ)) → ReadsLegacy t left (Ok guest) → (outcome ≡ outcomes.Done) ⊎ (outcome ≡ outcomes.WriteFault) → ConvertComes t left old new outcome
      by None h answers = tt
      by (Some input) (stream, rest, accepts, left_is, is_read) (inl is) =
          subst (ConvertComes (Some input) left old new) (sym is) (whole_text AcceptedLegacy input rest left old new guest (accepted_legacy input rest stream guest accepts is_read) left_is carried (done is))
      by (Some input) (stream, rest, accepts, left_is, is_read) (inr is) =
          subst (ConvertComes (Some input) left old new) (sym is) (text_part AcceptedLegacy input rest left old new guest (accepted_legacy input rest stream guest accepts is_read) left_is (part is))

pub whole_few : (g : GuestOf) → IsWhole g → IsFew g.frames
whole_few g whole = by g.kind refl
  where
    by : (kind : Kind) → g.kind ≡ kind → IsFew g.frames
    by Hvm is = (hvm_complete g is whole.faultless).1
    by Pv is = (pv_complete g is whole.faultless).few

-- a base that may be given fits every guest without too many frames
pub base_fits : (guest : GuestOf) (base : ℕ) → IsFew guest.frames → IsBase base → IsBaseOutside guest base → ⊥
base_fits guest base few range (inl zero) = omega (arith, zero, range.0)
base_fits guest base few range (inr above) = omega (arith, above, range.1, few)

-- the image of an accepted front's guest was written
pub whole_restored : (base : ℕ) (input rest : List ℕ) (left old new : Option (List ℕ)) (guest : GuestOf) → AcceptedStream input guest rest → left ≡ Some rest → IsCarried guest → IsBase base
    → Appends old new (restored_text base guest) → Restored base input left old new
whole_restored base input rest left old new guest accepted left_is carried range wrote =
    let fits = base_fits guest base (whole_few guest carried.whole) range in
    let valid = whole_valid guest base carried.whole fits in
    record {
      guest = guest;
      rest = rest;
      accepted = accepted;
      left_is = left_is;
      wrote = wrote;
      carried = carried;
      valid = valid;
      sound = whole_sound guest base carried.whole carried.blank fits;
      seen = whole_seen guest base carried.whole carried.blank fits;
      kept = λ widest more narrow. image_reads widest (restored_text base guest ++ more) (hosted guest base) more (record { image = record { version = Two; valid = valid; holds = held (hosted guest base) valid; spelled = refl }; narrow = narrow });
    }

pub came_restored : (told left old new : Option (List ℕ)) (reading : Reading) (base : ℕ) (outcome : Outcome) → ReadsStream told left (Ok reading) → IsCarried reading.guest → IsBase base
    → (outcome ≡ outcomes.Done → Appends old new (restored_text base reading.guest)) → (outcome ≡ outcomes.WriteFault → AppendsPart old new (restored_text base reading.guest))
    → (outcome ≡ outcomes.Done) ⊎ ((outcome ≡ outcomes.WriteFault) ⊎ (outcome ≡ outcomes.Memory)) → RestoreComes base told left old new outcome
came_restored None left old new reading base outcome h carried range done part answers = tt
came_restored (Some input) left old new reading base outcome (stream, rest, accepts, left_is, is_read) carried range done part (inl is) =
    subst (RestoreComes base (Some input) left old new) (sym is)
    (whole_restored base input rest left old new reading.guest (accepted_front input rest stream reading accepts is_read) left_is carried range (done is))
came_restored (Some input) left old new reading base outcome (stream, rest, accepts, left_is, is_read) carried range done part (inr (inl is)) =
    subst (RestoreComes base (Some input) left old new) (sym is) (record { guest = reading.guest; rest = rest; accepted = accepted_front input rest stream reading accepts is_read; left_is = left_is; wrote = part is })
came_restored (Some input) left old new reading base outcome h carried range done part (inr (inr is)) = subst (RestoreComes base (Some input) left old new) (sym is) tt

-- what a restored guest came to, of which nothing is written where there is no memory
pub restored_came : (base : ℕ) (e : Effects) (outcome : Outcome) → RestoreComes base e.input.told e.input.left e.out.old e.out.new outcome → (outcome ≡ outcomes.Done) ⊎ ((outcome ≡ outcomes.WriteFault) ⊎ (outcome ≡ outcomes.Memory))
    → (outcome ≡ outcomes.Memory → e.out.Untouched) → e.input.failed_now ≡ e.input.failed → OutputRises (status_of outcome) e.out.failed e.out.failed_now → ComesTo (restore_promise base) e outcome
restored_came base e outcome said (inl is) kept same write = text_written (restore_promise base) e outcome (inl refl) (inr refl) said (inl is) same write
restored_came base e outcome said (inr (inl is)) kept same write = text_written (restore_promise base) e outcome (inl refl) (inr refl) said (inr is) same write
restored_came base e outcome said (inr (inr is)) kept same write =
    unwritten (restore_promise base) e outcome (subst IsUnwritten (sym is) tt) said (subst (λ o. InputRises (status_of o) e.input.failed e.input.failed_now) (sym is) same) (kept is) (subst (λ o. OutputRises (status_of o) e.out.failed e.out.failed_now) is write)

abbrev pub reported : Result (Unit {0}) WriteFailed → Status
reported (Ok u) = statuses.Done
reported (Err e) = statuses.WriteFault
