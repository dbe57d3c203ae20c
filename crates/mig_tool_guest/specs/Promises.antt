-- What each command that reads a guest, or passes its stream on, promises.
use Rattle.std.specs.Prelude.{◌≡◌, ◌⊎◌, ℕ, List, ⊤, Some}
use Rattle.mig_tool_guest.specs.Common.{Appends, AppendsPart, Rose, GuestOf, canon_any, AcceptedStream, IsCutPart, IsDoneOrStarved, Promise, copies_text, reports_line, writes_text, ok_line, relayed_line, walked_line, EndsWithOwnLine, PutsLineOrFault, AcceptedLegacy, checked_legacy_line, checked_line}
use Rattle.mig_tool_report.specs.declared.status.Status.TheVariants as statuses
use Rattle.mig_tool_guest.specs.Addresses.{AddressReported, FrameInHost, FrameInStream, HostHasFrame, StreamHasFrame}
use Rattle.mig_tool_guest.specs.Fronts.{Accepting, Checked, LegacyChecked, Normalised, PartWritten, Restored, Verified, restored_text}
use Rattle.mig_tool_guest.specs.Refusals.{HasLegacyRefusal, HasOpenRefusal, HasStreamRefusal, HasWalkImageRefusal, HasWalkRefusal}
use Rattle.mig_tool_guest.specs.Relays.{FrontRelayed, PassableFront, Relays}
use Rattle.mig_tool_guest.specs.Shown.{FrontShown, IsShown, PartShown}

-- a front of the input is accepted with some guest
pub record HasFront (Accepts : Accepting) (input : List ℕ) : Type 0 where
  pub guest : GuestOf
  pub rest : List ℕ
  pub accepted : Accepts input guest rest

-- a front of the input may pass, whose guest nobody asks for
pub record HasPassableFront (input : List ℕ) : Type 0 where
  pub rest : List ℕ
  pub front : PassableFront input rest

-- `normalise` takes an accepted stream, and writes the canonical stream of its guest
abbrev pub normalise_promise : Promise
normalise_promise = writes_text (HasFront AcceptedStream) HasStreamRefusal (Normalised AcceptedStream) (PartWritten AcceptedStream canon_any)

-- of a file it reads the pages once more, where it writes them
abbrev pub normalise_file_promise : Promise
normalise_file_promise = copies_text (HasFront AcceptedStream) HasStreamRefusal (Normalised AcceptedStream) (PartWritten AcceptedStream canon_any)

-- `convert` does so with a legacy stream
abbrev pub convert_promise : Promise
convert_promise = writes_text (HasFront AcceptedLegacy) HasLegacyRefusal (Normalised AcceptedLegacy) (PartWritten AcceptedLegacy canon_any)

abbrev pub convert_file_promise : Promise
convert_file_promise = copies_text (HasFront AcceptedLegacy) HasLegacyRefusal (Normalised AcceptedLegacy) (PartWritten AcceptedLegacy canon_any)

-- `restore` takes an accepted stream, and writes the image of its guest's host
abbrev pub restore_promise : ℕ → Promise
restore_promise base = writes_text (HasFront AcceptedStream) HasStreamRefusal (Restored base) (PartWritten AcceptedStream (restored_text base))

-- of a file it reads the pages once more, where it writes them
abbrev pub restore_file_promise : ℕ → Promise
restore_file_promise base = copies_text (HasFront AcceptedStream) HasStreamRefusal (Restored base) (PartWritten AcceptedStream (restored_text base))

-- `verify` takes an accepted stream, and reports what it is
abbrev pub verify_promise : Promise
verify_promise = reports_line ok_line (HasFront AcceptedStream) HasStreamRefusal Verified

-- `mig_check` takes an accepted stream, and reports what it is, but that it compares nothing
abbrev pub check_promise : Promise
check_promise = reports_line checked_line (HasFront AcceptedStream) HasStreamRefusal Checked

-- `mig_check legacy` takes an accepted legacy stream, and reports how many frames its guest has
abbrev pub check_legacy_promise : Promise
check_legacy_promise = reports_line checked_legacy_line (HasFront AcceptedLegacy) HasLegacyRefusal LegacyChecked

-- `walk` takes an accepted stream in whose guest the address means a frame to the vCPU, and reports which
abbrev pub walk_promise : ℕ → ℕ → Promise
walk_promise id at = reports_line walked_line (HasFront (StreamHasFrame id at)) (HasWalkRefusal id at) (λ Reported input left. AddressReported (FrameInStream id at input left) Reported)

-- `walkimage` does so with the image of a sound host
abbrev pub walk_image_promise : ℕ → ℕ → Promise
walk_image_promise id at = reports_line walked_line (HasFront (HostHasFrame id at)) (HasWalkImageRefusal id at) (λ Reported input left. AddressReported (FrameInHost id at input left) Reported)

-- `relay` takes a front that may pass, writes just this front, and reports how much that is; it writes before it refuses
abbrev pub relay_promise : Promise
relay_promise = record {
  Accepts = HasPassableFront;
  EndsWith = λ input. IsDoneOrStarved;
  Refuses = HasOpenRefusal;
  Done = λ input e. FrontRelayed (Appends e.report.old e.report.new) input e.input.left e.out.old e.out.new;
  DonePart = λ input e. IsCutPart (Some input) e.input.left e.out.old e.out.new ⊎ FrontRelayed (AppendsPart e.report.old e.report.new) input e.input.left e.out.old e.out.new;
  WriteRose = λ e. Rose e.out.failed e.out.failed_now ⊎ Rose e.report.failed e.report.failed_now;
  HasOwnLine = EndsWithOwnLine;
  PutsOwnLine = λ report status. PutsLineOrFault relayed_line report.old report.new status;
  MayWrite = λ status. ⊤;
  WritesRefused = ⊤;
  Besides = λ e status. Relays status e;
}

-- `show` takes such a front, and writes the text of its records; of an input that is refused, that of the records in front of
-- the refused part
abbrev pub show_promise : Promise
show_promise = record (writes_text HasPassableFront HasOpenRefusal FrontShown (λ input. PartShown (Some input))) {
  MayWrite = λ status. (status ≡ statuses.Refused) ⊎ ((status ≡ statuses.Done) ⊎ (status ≡ statuses.WriteFault));
  WritesRefused = ⊤;
  Besides = λ e status. IsShown status e;
}
