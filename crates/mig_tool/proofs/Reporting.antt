-- Whoever carries out a command keeps its promise: an input that it accepts is done, and one that it refuses is refused.
use Rattle.mig_tool.proofs.Common.{◌≡◌, ◌⊎◌, ℕ, List, Option, Some, refl, subst, Refusal, Command, CarriedOut, Effects, IsOfInput, HasLegacyRefusal, HasOpenRefusal, HasStreamRefusal, HasWalkImageRefusal, HasWalkRefusal, AcceptedStream, AddressReported, FrameInHost, FrameInStream, HostHasFrame, StreamHasFrame, HasFront, ok_line, walked_line}
use mathlib.Core.Logic.{inl, inr}
use Rattle.mig_bytes.specs.Faults.{Rose}
use Rattle.mig_canon.specs.CanonStream.{canon_any}
use Rattle.mig_host_view.specs.View.{view}
use Rattle.mig_legacy.specs.Spelled.{AcceptedLegacy}
use Rattle.mig_tool_guest.proofs.Once.{accepted_once, legacy_once, walk_image_once, walk_once}
use Rattle.mig_tool_guest.proofs.Relaying.{front_once, passed_front}
use Rattle.mig_tool_guest.proofs.Walks.{host_found, stream_found}
use Rattle.mig_tool_guest.specs.Fronts.{Accepting, Normalised, PartWritten, Restored, Verified, restored_text}
use Rattle.mig_tool_guest.specs.Relays.{PassedOn, RelayBreaksOff}
use Rattle.mig_tool_report.proofs.Settled.{IsSettled, keeps, settled_copy, settled_line, settled_text}
use Rattle.mig_tool_report.specs.Promises.{KeepsPromise, copies_text, writes_text}
use Rattle.mig_tool_report.specs.Statuses.{Refusing}
use Rattle.mig_tool_report.specs.declared.command.Command.TheVariants.{Convert, Exercise, Normalise, Restore, Save, Verify, Walk, WalkImage, Relay, Show}
use Rattle.mig_tool_report.specs.declared.status.Status.{Status}
use Rattle.mig_tool_report.specs.declared.status.Status.TheVariants as statuses
use Rattle.mig_tool_save.proofs.SaveInputs.{not_refused, paused}
use Rattle.mig_tool_save.specs.Promises.{save_promise}
use Rattle.mig_tool_save.specs.Saves.{HasSaveRefusal}
use Rattle.mig_tool.specs.Promises.{promise_of, promise_of_file}

-- what the command that it is came to
pub of_same : (this command : Command) (e : Effects) (status : Status) → this ≡ command → CarriedOut (promise_of this) e status → CarriedOut (promise_of command) e status
of_same this command e status same came = subst (λ (d : Command). CarriedOut (promise_of d) e status) same came

-- and of a file
pub of_same_file : (this command : Command) (e : Effects) (status : Status) → this ≡ command → CarriedOut (promise_of_file this) e status → CarriedOut (promise_of_file command) e status
of_same_file this command e status same came = subst (λ (d : Command). CarriedOut (promise_of_file d) e status) same came

-- who writes a text without reading the file once more keeps what is promised of a copy too
text_copied : (Accepts : List ℕ → Type 0) (Refuses : Refusing) (Text Part : List ℕ → (left old new : Option (List ℕ)) → Type 0) (e : Effects) (status : Status) → CarriedOut (writes_text Accepts Refuses Text Part) e status
    → CarriedOut (copies_text Accepts Refuses Text Part) e status
text_copied Accepts Refuses Text Part e status came = record {
  said = came.said;
  known = came.known;
  kept = λ never. came.kept (λ may. never (turned may));
  read = came.read;
  write = came.write;
  line = came.line;
  own_line = came.own_line;
  out_faults = came.out_faults;
  report_faults = came.report_faults;
  besides = λ failed. inl (came.kept (unwritten failed));
}
  where
    turned : (status ≡ statuses.Done) ⊎ (status ≡ statuses.WriteFault) → (status ≡ statuses.Done) ⊎ ((status ≡ statuses.WriteFault) ⊎ (status ≡ statuses.ReadFault))
    turned (inl done) = inl done
    turned (inr fault) = inr (inl fault)

    unwritten : status ≡ statuses.ReadFault → (status ≡ statuses.Done) ⊎ (status ≡ statuses.WriteFault) → ⊥
    unwritten failed (inl done) = cc
    unwritten failed (inr fault) = cc

-- so what is done of an input as it comes is what is promised of a file
pub as_it_comes : (command : Command) (e : Effects) (status : Status) → CarriedOut (promise_of command) e status → CarriedOut (promise_of_file command) e status
as_it_comes Normalise e status came = text_copied (HasFront AcceptedStream) HasStreamRefusal (Normalised AcceptedStream) (PartWritten AcceptedStream canon_any) e status came
as_it_comes Convert e status came = text_copied (HasFront AcceptedLegacy) HasLegacyRefusal (Normalised AcceptedLegacy) (PartWritten AcceptedLegacy canon_any) e status came
as_it_comes (Restore base) e status came = text_copied (HasFront AcceptedStream) HasStreamRefusal (Restored base) (PartWritten AcceptedStream (restored_text base)) e status came
as_it_comes Verify e status came = came
as_it_comes Save e status came = came
as_it_comes (Exercise seed n) e status came = came
as_it_comes (Walk id at) e status came = came
as_it_comes (WalkImage id at) e status came = came
as_it_comes Relay e status came = came
as_it_comes Show e status came = came

-- ---- of streams and legacy streams

stream_once : (input : List ℕ) (refusal : Refusal) (rest : List ℕ) → HasFront AcceptedStream input → HasStreamRefusal input refusal rest → ⊥
stream_once input refusal rest a refused = accepted_once input a.guest a.rest rest refusal a.accepted refused

legacy_stream_once : (input : List ℕ) (refusal : Refusal) (rest : List ℕ) → HasFront AcceptedLegacy input → HasLegacyRefusal input refusal rest → ⊥
legacy_stream_once input refusal rest a refused = legacy_once input a.guest a.rest rest refusal a.accepted refused

-- what was written in the canonical form is of an accepted input
settled_canonical : (Accepts : Accepting) (Refuses : Refusing) → ((input : List ℕ) (refusal : Refusal) (rest : List ℕ) → HasFront Accepts input → Refuses input refusal rest → ⊥)
    → IsSettled (writes_text (HasFront Accepts) Refuses (Normalised Accepts) (PartWritten Accepts canon_any))
settled_canonical Accepts Refuses once =
    settled_text (HasFront Accepts) Refuses (Normalised Accepts) (PartWritten Accepts canon_any)
    (λ input left old new h. record { guest = h.guest; rest = h.rest; accepted = h.accepted }) (λ input left old new h. record { guest = h.guest; rest = h.rest; accepted = h.accepted }) once

-- ---- of commands that write of what is refused

-- a relay of an input that is refused breaks off where a write of the output fails alone
relay_unbroken : (e : Effects) (input : List ℕ) (refusal : Refusal) (rest : List ℕ) → e.input.told ≡ Some input → HasOpenRefusal input refusal rest → (Rose e.out.failed e.out.failed_now → ⊥) → RelayBreaksOff e → ⊥
relay_unbroken e input refusal rest is refused quiet (inl broke) = quiet broke.rose
relay_unbroken e input refusal rest is refused quiet (inr broke) =
    let f = passed_front input e.input.left e.out.old e.out.new broke.summary (subst (λ t. PassedOn t e.input.left e.out.old e.out.new broke.summary) is broke.passed) in
    front_once input f.rest rest refusal f.front refused

save_part : (input : List ℕ) (e : Effects) (refusal : Refusal) (rest : List ℕ) → save_promise.DonePart input e → HasSaveRefusal input refusal rest → IsOfInput refusal → ⊥
save_part input e refusal rest (inl h) refused it = not_refused input h.host h.lines refusal rest h.read refused it
save_part input e refusal rest (inr h) refused it = not_refused input h.host h.lines refusal rest h.read refused it

-- ---- of each command

settled : (command : Command) → IsSettled (promise_of command)
settled Normalise = settled_canonical AcceptedStream HasStreamRefusal stream_once
settled Convert = settled_canonical AcceptedLegacy HasLegacyRefusal legacy_stream_once
settled (Restore base) =
    settled_text (HasFront AcceptedStream) HasStreamRefusal (Restored base) (PartWritten AcceptedStream (restored_text base))
    (λ input left old new h. record { guest = h.guest; rest = h.rest; accepted = h.accepted }) (λ input left old new h. record { guest = h.guest; rest = h.rest; accepted = h.accepted }) stream_once
settled Verify =
    settled_line ok_line (HasFront AcceptedStream) HasStreamRefusal Verified
    (λ Reported input left h. record { guest = h.guest; rest = h.rest; accepted = h.accepted }) stream_once
settled (Walk id at) =
    settled_line walked_line (HasFront (StreamHasFrame id at)) (HasWalkRefusal id at) (λ Reported input left. AddressReported (FrameInStream id at input left) Reported)
    (λ Reported input left h. record { guest = h.found.guest; rest = h.found.rest; accepted = stream_found id at input left h.summary h.found })
    (λ input refusal rest a refused. walk_once id at input a.guest a.rest rest refusal a.accepted refused)
settled (WalkImage id at) =
    settled_line walked_line (HasFront (HostHasFrame id at)) (HasWalkImageRefusal id at) (λ Reported input left. AddressReported (FrameInHost id at input left) Reported)
    (λ Reported input left h. record { guest = view h.found.host; rest = h.found.rest; accepted = host_found id at input left h.summary h.found })
    (λ input refusal rest a refused. walk_image_once id at input a.guest a.rest rest refusal a.accepted refused)
settled (Exercise seed n) = record {
  done = λ input. inl refl;
  starved = λ input. inr refl;
  refused = λ input refusal rest a r. absurd r;
  not_done = λ input e refusal rest h r it. r;
  not_part = λ input e refusal rest h r it other. r;
  unbroken = λ e status input refusal rest before is r quiet besides failed rose. before;
}
settled Relay = record {
  done = λ input. inl refl;
  starved = λ input. inr refl;
  refused = λ input refusal rest a r. absurd (front_once input a.rest rest refusal a.front r);
  not_done = λ input e refusal rest h r it. front_once input h.rest rest refusal h.front r;
  not_part = λ input e refusal rest h r it other. other tt;
  unbroken = λ e status input refusal rest before is r quiet besides failed rose. relay_unbroken e input refusal rest is r quiet (besides.broke failed);
}
settled Show = record {
  done = λ input. inl refl;
  starved = λ input. inr refl;
  refused = λ input refusal rest a r. absurd (front_once input a.rest rest refusal a.front r);
  not_done = λ input e refusal rest h r it. front_once input h.rest rest refusal h.front r;
  not_part = λ input e refusal rest h r it other. other tt;
  unbroken = λ e status input refusal rest before is r quiet besides failed rose. quiet rose;
}
settled Save = record {
  done = λ input. inl refl;
  starved = λ input. inr (inr refl);
  refused = λ input refusal rest a r. let pause = paused input a.host a.lines refusal rest a.is r in inr (inl (refl, pause.0, pause.1));
  not_done = λ input e refusal rest h r it. not_refused input h.host h.lines refusal rest h.read r it;
  not_part = λ input e refusal rest h r it other. save_part input e refusal rest h r it;
  unbroken = λ e status input refusal rest before is r quiet besides failed rose. before;
}

pub keeps_command : (command : Command) (e : Effects) (status : Status) → CarriedOut (promise_of command) e status → KeepsPromise (promise_of command) e status
keeps_command command e status came = keeps (promise_of command) (settled command) e status came

settled_file : (command : Command) → IsSettled (promise_of_file command)
settled_file Normalise = settled_copy (HasFront AcceptedStream) HasStreamRefusal (Normalised AcceptedStream) (PartWritten AcceptedStream canon_any) (settled Normalise)
settled_file (Restore base) = settled_copy (HasFront AcceptedStream) HasStreamRefusal (Restored base) (PartWritten AcceptedStream (restored_text base)) (settled (Restore base))
settled_file Verify = settled Verify
settled_file Convert = settled_copy (HasFront AcceptedLegacy) HasLegacyRefusal (Normalised AcceptedLegacy) (PartWritten AcceptedLegacy canon_any) (settled Convert)
settled_file Save = settled Save
settled_file (Exercise seed n) = settled (Exercise seed n)
settled_file (Walk id at) = settled (Walk id at)
settled_file (WalkImage id at) = settled (WalkImage id at)
settled_file Relay = settled Relay
settled_file Show = settled Show

pub keeps_file_command : (command : Command) (e : Effects) (status : Status) → CarriedOut (promise_of_file command) e status → KeepsPromise (promise_of_file command) e status
keeps_file_command command e status came = keeps (promise_of_file command) (settled_file command) e status came
