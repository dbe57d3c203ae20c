-- What the steps of a walk answer.
use Rattle.std.specs.Prelude.{◌≡◌, ◌⊎◌, ⊤, ℕ, List, Option, Some, None, Result, Ok, Err}
use Rattle.mig_tool_guest.specs.Common.{Appends, AppendsPart, Rose, HostOf, IsSound, unsoundness, status_of, line_of, Reports, walked_line, Outcome, WalkSummary, Status, Standing, in_host, OutcomeSays, Refusing}
use Rattle.mig_tool_report.specs.declared.outcome.Outcome.TheVariants as outcomes
use Rattle.mig_tool_report.specs.declared.outcome.Refusal.TheVariants as refusals
use Rattle.mig_tool_report.specs.declared.status.Status.TheVariants as statuses
use Rattle.mig_tool_guest.specs.Addresses.{FrameInHost, FrameInStream, MeansNone}
use Rattle.mig_tool_guest.specs.Refusals.{HasWalkImageRefusal, HasWalkRefusal}

-- a walk that comes to no frame is refused so
abbrev pub EndsWalk : Standing → ℕ → ℕ → Outcome → Type 0
EndsWalk s id at (outcomes.Refused (refusals.Walk end)) = MeansNone s id at end
EndsWalk s id at _ = ⊥

-- the same where there may be no memory
abbrev pub EndsOrStarves : Standing → ℕ → ℕ → Outcome → Type 0
EndsOrStarves s id at (outcomes.Refused (refusals.Walk end)) = MeansNone s id at end
EndsOrStarves s id at outcomes.Memory = ⊤
EndsOrStarves s id at _ = ⊥

-- the same in a host, which may not be sound, and of which that isn't found out where there is no memory
abbrev pub EndsInHost : HostOf → ℕ → ℕ → Outcome → Type 0
EndsInHost h id at (outcomes.Refused (refusals.Host unsound)) = unsoundness h ≡ Some unsound
EndsInHost h id at (outcomes.Refused (refusals.Walk end)) = IsSound h × MeansNone (in_host h) id at end
EndsInHost h id at outcomes.Memory = ⊤
EndsInHost h id at _ = ⊥

-- the status that a walk leads to, where the report doesn't fail
abbrev pub status_found : Result WalkSummary Outcome → Status
status_found (Ok summary) = statuses.Done
status_found (Err outcome) = status_of outcome

-- what is told of it: the line of the frame, or a part of it where the report failed; or the line of the outcome
abbrev pub TellsFound : Result WalkSummary Outcome → Status → Option (List ℕ) → Option (List ℕ) → ℕ → ℕ → Type 0
TellsFound (Ok summary) status old new before now =
    ((status ≡ statuses.Done) × Appends old new (walked_line summary) × (now ≡ before)) ⊎ ((status ≡ statuses.WriteFault) × AppendsPart old new (walked_line summary) × Rose before now)
TellsFound (Err outcome) status old new before now = (status ≡ status_of outcome) × Reports (line_of outcome) old new before now

-- the frame that an address means in the input; or why nothing was read, or none is meant
abbrev pub FindsFrame : (Found : List ℕ → WalkSummary → Type 0) → Refusing → Option (List ℕ) → Option (List ℕ) → Result WalkSummary Outcome → Type 0
FindsFrame Found Has None left result = ⊤
FindsFrame Found Has (Some input) left (Ok summary) = Found input summary
FindsFrame Found Has (Some input) left (Err outcome) = OutcomeSays (λ _. ⊥) (λ _. ⊥) Has (Some input) left outcome

-- in a stream
abbrev pub FindsInStream : ℕ → ℕ → Option (List ℕ) → Option (List ℕ) → Result WalkSummary Outcome → Type 0
FindsInStream id at told left result = FindsFrame (λ input summary. FrameInStream id at input left summary) (HasWalkRefusal id at) told left result

-- in the image of a host
abbrev pub FindsInImage : ℕ → ℕ → Option (List ℕ) → Option (List ℕ) → Result WalkSummary Outcome → Type 0
FindsInImage id at told left result = FindsFrame (λ input summary. FrameInHost id at input left summary) (HasWalkImageRefusal id at) told left result
