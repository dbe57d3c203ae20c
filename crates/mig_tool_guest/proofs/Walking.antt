-- What a walk comes to, says and reports.
use Rattle.mig_tool_guest.proofs.Common.{inl, inr, Appends, AppendsPart, Passes, HostOf, ReadsStream, Reading, Outcome, WalkSummary, Status, in_stream, in_host, MeansFrame, any_host_at, says_of, ◌≡◌, ℕ, List, Option, Some, None, Result, Ok, Err, sym, ap, subst, ◌∙◌, OutcomeSays, InputRises, CarriedOut, Effects, IsUnwritten, finished, line_put, never_failed, no_line, status_of, unwritten, ◌⊎◌, ◌≤◌, IfOk, IfErr, OnOk, most_width, IsSound, Rose, IsUntouched, Promise, reports_line, walked_line, PutsLineOf, Refusing, StatusSays, AddressReported}
use Rattle.mig_host.specs.HostView.{HostAndSpare}
use Rattle.mig_image.specs.Answer.{ReadsHost}
use Rattle.mig_tool_report.specs.declared.status.Status.TheVariants as statuses
use Rattle.mig_tool_guest.specs.AddressSteps.{EndsWalk, EndsInHost, FindsFrame, FindsInImage, FindsInStream, TellsFound, status_found}
use Rattle.mig_tool_guest.proofs.Reporting.{accepted_front}
use Rattle.mig_tool_report.specs.declared.outcome.Outcome.TheVariants as outcomes
use Rattle.mig_tool_report.specs.declared.outcome.Refusal.TheVariants as refusals

-- ---- what is found

pub stream_frame : (id at : ℕ) (told left : Option (List ℕ)) (reading : Reading) (r : Result WalkSummary Outcome) → ReadsStream told left (Ok reading)
    → IfOk r (MeansFrame (in_stream reading.guest) id at) → IfErr r (EndsWalk (in_stream reading.guest) id at) → FindsInStream id at told left r
stream_frame id at None left reading r h frame none = tt
stream_frame id at (Some input) left reading (Ok s) (stream, rest, accepts, left_is, is_read) frame none =
    record { guest = reading.guest; rest = rest; accepted = accepted_front input rest stream reading accepts is_read; left_is = left_is; means = frame }
stream_frame id at (Some input) left reading (Err (outcomes.Refused (refusals.Walk end))) (stream, rest, accepts, left_is, is_read) frame none =
    (rest, record { guest = reading.guest; accepted = accepted_front input rest stream reading accepts is_read; means = none }, left_is)
stream_frame id at (Some input) left reading (Err _) h frame none = absurd none

pub host_frame : (id at : ℕ) (told left : Option (List ℕ)) (host : HostAndSpare) (r : Result WalkSummary Outcome) → ReadsHost most_width told left (Ok host)
    → OnOk r (IsSound host.host) → IfOk r (MeansFrame (in_host host.host) id at) → IfErr r (EndsInHost host.host id at) → FindsInImage id at told left r
host_frame id at None left host r h sound frame none = tt
host_frame id at (Some input) left host r (read, rest, passes, left_is, is) sound frame none = by r sound frame none
  where
    image : any_host_at input ≡ Passes host.host rest
    image = passes ∙ ap (λ (h : HostOf). Passes h rest) (sym is)

    by : (r : Result WalkSummary Outcome) → OnOk r (IsSound host.host) → IfOk r (MeansFrame (in_host host.host) id at) → IfErr r (EndsInHost host.host id at) → FindsInImage id at (Some input) left r
    by (Ok s) sound frame none = record { host = host.host; rest = rest; is = record { image = image; sound = sound }; left_is = left_is; means = frame }
    by (Err (outcomes.Refused (refusals.Host unsound))) sound frame none = (rest, record { host = host.host; image = image; first = none }, left_is)
    by (Err (outcomes.Refused (refusals.Walk end))) sound frame none = (rest, record { host = host.host; is = record { image = image; sound = none.0 }; means = none.1 }, left_is)
    by (Err outcomes.Memory) sound frame none = tt
    by (Err _) sound frame none = absurd none

-- nothing else comes of a host
pub host_unfound : (h : HostOf) (id at : ℕ) (r : Result WalkSummary Outcome) → IfErr r (EndsInHost h id at) → IfErr r IsUnwritten
host_unfound h id at (Ok s) none = tt
host_unfound h id at (Err (outcomes.Refused refusal)) none = tt
host_unfound h id at (Err outcomes.Memory) none = tt
host_unfound h id at (Err _) none = absurd none

-- and the count of the input stands as it was
pub host_quiet : (h : HostOf) (id at : ℕ) (r : Result WalkSummary Outcome) (before now : ℕ) → IfErr r (EndsInHost h id at) → now ≡ before → InputRises (status_found r) before now
host_quiet h id at (Ok s) before now none same = same
host_quiet h id at (Err (outcomes.Refused refusal)) before now none same = same
host_quiet h id at (Err outcomes.Memory) before now none same = same
host_quiet h id at (Err _) before now none same = absurd none

-- ---- what is said and reported

module _ (Found : List ℕ → WalkSummary → Type 0) (Has : Refusing) (told left : Option (List ℕ)) where
  -- where no frame was found, the outcome comes
  unfound_comes : (D P : List ℕ → Type 0) (outcome : Outcome) → FindsFrame Found Has told left (Err outcome) → OutcomeSays D P Has told left outcome
  unfound_comes D P outcome found = by told outcome found
    where
      by : (t : Option (List ℕ)) (outcome : Outcome) → FindsFrame Found Has t left (Err outcome) → OutcomeSays D P Has t left outcome
      by None outcome found = tt
      by (Some input) (outcomes.Refused refusal) found = found
      by (Some input) outcomes.ReadFault found = tt
      by (Some input) outcomes.Memory found = tt
      by (Some input) _ found = absurd found

  module _ (old new : Option (List ℕ)) where
    abbrev Says : Option (List ℕ) → Status → Type 0
    Says t status = StatusSays (λ input. AddressReported (Found input) (Appends old new)) (λ input. AddressReported (Found input) (AppendsPart old new)) Has t left status

    frame_says : (s : WalkSummary) (status : Status) (before now : ℕ) → FindsFrame Found Has told left (Ok s) → TellsFound (Ok s) status old new before now → Says told status
    frame_says s status before now found tells = by told found tells
      where
        by : (t : Option (List ℕ)) → FindsFrame Found Has t left (Ok s) → TellsFound (Ok s) status old new before now → Says t status
        by None found tells = tt
        by (Some input) found (inl (same, put, quiet)) = subst (Says (Some input)) (sym same) (record { summary = s; found = found; reported = put })
        by (Some input) found (inr (same, put, rose)) = subst (Says (Some input)) (sym same) (record { summary = s; found = found; reported = put })

    pub found_says : (r : Result WalkSummary Outcome) (status : Status) (before now : ℕ) → FindsFrame Found Has told left r → TellsFound r status old new before now → Says told status
    found_says (Ok s) status before now found tells = frame_says s status before now found tells
    found_says (Err outcome) status before now found tells =
        says_of (λ input. AddressReported (Found input) (Appends old new)) (λ input. AddressReported (Found input) (AppendsPart old new)) Has told left outcome status tells.0
        (unfound_comes (λ input. AddressReported (Found input) (Appends old new)) (λ input. AddressReported (Found input) (AppendsPart old new)) outcome found)

-- what a walk came to, whatever the output is, which it doesn't reach
module _ (Accepts : List ℕ → Type 0) (Found : List ℕ → Option (List ℕ) → WalkSummary → Type 0) (Has : Refusing) (e : Effects) (idle : IsUntouched e.out) where
  abbrev promise : Promise
  promise = reports_line walked_line Accepts Has (λ Reported input left. AddressReported (Found input left) Reported)

  pub found_carried : (r : Result WalkSummary Outcome) (status : Status) → FindsFrame (λ input summary. Found input e.input.left summary) Has e.input.told e.input.left r → IfErr r IsUnwritten → InputRises (status_found r) e.input.failed e.input.failed_now
      → TellsFound r status e.report.old e.report.new e.report.failed e.report.failed_now → (status ≡ statuses.Done → e.report.failed_now ≡ e.report.failed) → e.report.failed ≤ e.report.failed_now → CarriedOut promise e status
  found_carried (Ok s) status found none read tells quiet later =
      line_put walked_line Accepts Has (λ Reported input left. AddressReported (Found input left) Reported) e status
      (found_says (λ input summary. Found input e.input.left summary) Has e.input.told e.input.left e.report.old e.report.new (Ok s) status e.report.failed e.report.failed_now found tells)
      (either tells) read idle (rises tells) (own tells) later quiet
    where
      either : TellsFound (Ok s) status e.report.old e.report.new e.report.failed e.report.failed_now → (status ≡ statuses.Done) ⊎ (status ≡ statuses.WriteFault)
      either (inl told) = inl told.0
      either (inr told) = inr told.0

      rises : TellsFound (Ok s) status e.report.old e.report.new e.report.failed e.report.failed_now → status ≡ statuses.WriteFault → Rose e.report.failed e.report.failed_now
      rises (inl told) failed = let done = told.0 in cc
      rises (inr told) failed = told.2

      own : TellsFound (Ok s) status e.report.old e.report.new e.report.failed e.report.failed_now → PutsLineOf walked_line e.report.old e.report.new status
      own (inl told) = subst (PutsLineOf walked_line e.report.old e.report.new) (sym told.0) (s, told.1)
      own (inr told) = subst (PutsLineOf walked_line e.report.old e.report.new) (sym told.0) (s, told.1)
  found_carried (Err outcome) status found none read tells quiet later =
      finished promise e outcome status tells.0
      (unwritten promise e outcome none (unfound_comes (λ input summary. Found input e.input.left summary) Has e.input.told e.input.left (λ input. promise.Done input e) (λ input. promise.DonePart input e) outcome found) read idle.untouched idle.quiet)
      (never_failed outcome status none tells.0) tells.1 (λ d. quiet (tells.0 ∙ ap status_of d)) later (no_line walked_line _ _ outcome status none tells.0) tt
