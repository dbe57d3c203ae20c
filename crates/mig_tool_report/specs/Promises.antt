-- What a command promises, and what came of it.
use Rattle.std.specs.Prelude.{◌≡◌, ◌≢◌, ◌⊎◌, ℕ, List, ⊤, Some, None, Option}
use Rattle.mig_tool_report.specs.Common.{Appends, AppendsPart, Rose}
use Rattle.mig_tool_report.specs.declared.outcome.Outcome.{Outcome}
use Rattle.mig_tool_report.specs.declared.outcome.Outcome.TheVariants as outcomes
use Rattle.mig_tool_report.specs.declared.outcome.Refusal.{Refusal}
use Rattle.mig_tool_report.specs.declared.outcome.Refusal.TheVariants as refusals
use Rattle.mig_tool_report.specs.declared.status.Status.{Status}
use Rattle.mig_tool_report.specs.declared.status.Status.TheVariants as statuses
use Rattle.mig_tool_report.specs.Outcome.{status_of}
use Rattle.mig_tool_report.specs.Report.{Reports}
use Rattle.mig_tool_report.specs.Statuses.{EndsWithOwnLine, InputRises, NoneFailed, OutcomeSays, OutputRises, PutsLineOf, Refusing, ReportsStatus, StatusSays}

-- ---- effects: what a call found and left

-- of an input: its bytes before the call and what is left of them after it, where it tells them; how many of its reads had
-- failed; and that it is as it was
pub record InputEffect : Type 1 where
  pub told : Option (List ℕ)
  pub left : Option (List ℕ)
  pub failed : ℕ
  pub failed_now : ℕ
  pub Unread : Type 0

-- of a sink: its bytes before the call and after it, where it tells them; how many of its writes had failed; and that it is as
-- it was
pub record SinkEffect : Type 1 where
  pub old : Option (List ℕ)
  pub new : Option (List ℕ)
  pub failed : ℕ
  pub failed_now : ℕ
  pub Untouched : Type 0

pub record Effects : Type 1 where
  pub input : InputEffect
  pub out : SinkEffect
  pub report : SinkEffect

abbrev pub input_effect : {S : Type 0} → (S → Option (List ℕ)) → (S → ℕ) → S → S → InputEffect
input_effect left faults old new = record { told = left old; left = left new; failed = faults old; failed_now = faults new; Unread = new ≡ old }

abbrev pub sink_effect : {K : Type 0} → (K → Option (List ℕ)) → (K → ℕ) → K → K → SinkEffect
sink_effect written faults old new = record { old = written old; new = written new; failed = faults old; failed_now = faults new; Untouched = new ≡ old }

abbrev pub effects : InputEffect → SinkEffect → SinkEffect → Effects
effects input out report = record { input = input; out = out; report = report }

-- of a sink that the call isn't given
abbrev pub unreached : SinkEffect
unreached = record { old = None; new = None; failed = 0; failed_now = 0; Untouched = ⊤ }

-- a sink that is as it was
pub record IsUntouched (e : SinkEffect) : Type 0 where
  pub untouched : e.Untouched
  pub quiet : e.failed_now ≡ e.failed

-- ---- a promise

-- the input alone decides about a refusal; that of a pause hangs on when the pause comes too
abbrev pub IsOfInput : Refusal → Type 0
IsOfInput (refusals.Pause unsound) = ⊥
IsOfInput _ = ⊤

-- What a command promises. Of an input that tells its bytes: which it accepts, and with which status such a one may end
-- where nothing failed; which refusals it has, with what follows the refused part; and what status 0 and status 4 say.
-- Of its sinks: a write of which of them is answered with status 4, and with which status it may have put a line of its
-- own on the report, and which line. Also with which status the output may have been written, whether something is
-- written before an input is refused, and what is said besides.
pub record Promise : Type 1 where
  pub Accepts : List ℕ → Type 0
  pub EndsWith : List ℕ → Status → Type 0
  pub Refuses : Refusing
  pub Done : List ℕ → Effects → Type 0
  pub DonePart : List ℕ → Effects → Type 0
  pub WriteRose : Effects → Type 0
  pub HasOwnLine : Status → Type 0
  pub PutsOwnLine : SinkEffect → Status → Type 0
  pub MayWrite : Status → Type 0
  pub WritesRefused : Type 0
  pub Besides : Effects → Status → Type 0

abbrev pub IsDoneOrStarved : Status → Type 0
IsDoneOrStarved status = (status ≡ statuses.Done) ⊎ (status ≡ statuses.Memory)

-- a command that puts no line of its own, and writes a text of the input on the output, whole or in part
abbrev pub writes_text : (Accepts : List ℕ → Type 0) → Refusing → (Text Part : List ℕ → (left old new : Option (List ℕ)) → Type 0) → Promise
writes_text Accepts Refuses Text Part = record {
  Accepts = Accepts;
  EndsWith = λ input. IsDoneOrStarved;
  Refuses = Refuses;
  Done = λ input e. Text input e.input.left e.out.old e.out.new;
  DonePart = λ input e. Part input e.input.left e.out.old e.out.new;
  WriteRose = λ e. Rose e.out.failed e.out.failed_now;
  HasOwnLine = λ status. ⊥;
  PutsOwnLine = λ report status. ⊤;
  MayWrite = λ status. (status ≡ statuses.Done) ⊎ (status ≡ statuses.WriteFault);
  WritesRefused = ⊥;
  Besides = λ e status. ⊤;
}

-- of the output: a part of the text of the input, where the input tells its bytes
abbrev pub IsPartCopied : (Part : List ℕ → (left old new : Option (List ℕ)) → Type 0) → Effects → Type 0
IsPartCopied Part e = (input : List ℕ) → e.input.told ≡ Some input → Part input e.input.left e.out.old e.out.new

-- the same, of a file that is read once more where its pages are written: with status 3 a part of the text may have been written
abbrev pub copies_text : (Accepts : List ℕ → Type 0) → Refusing → (Text Part : List ℕ → (left old new : Option (List ℕ)) → Type 0) → Promise
copies_text Accepts Refuses Text Part = record (writes_text Accepts Refuses Text Part) {
  MayWrite = λ status. (status ≡ statuses.Done) ⊎ ((status ≡ statuses.WriteFault) ⊎ (status ≡ statuses.ReadFault));
  Besides = λ e status. status ≡ statuses.ReadFault → e.out.Untouched ⊎ IsPartCopied Part e;
}

-- a command that writes nothing on the output, and puts the line of a summary of the input on the report, whole or in part
abbrev pub reports_line : {Summary : Type 0} → (Summary → List ℕ) → (Accepts : List ℕ → Type 0) → Refusing → (Says : (Reported : List ℕ → Type 0) → List ℕ → (left : Option (List ℕ)) → Type 0) → Promise
reports_line line_of Accepts Refuses Says = record {
  Accepts = Accepts;
  EndsWith = λ input. IsDoneOrStarved;
  Refuses = Refuses;
  Done = λ input e. Says (Appends e.report.old e.report.new) input e.input.left;
  DonePart = λ input e. Says (AppendsPart e.report.old e.report.new) input e.input.left;
  WriteRose = λ e. Rose e.report.failed e.report.failed_now;
  HasOwnLine = EndsWithOwnLine;
  PutsOwnLine = λ report status. PutsLineOf line_of report.old report.new status;
  MayWrite = λ status. ⊥;
  WritesRefused = ⊥;
  Besides = λ e status. ⊤;
}

-- ---- a promise that is kept

-- what a command came to, but for the line of its status
pub record ComesTo (p : Promise) (e : Effects) (outcome : Outcome) : Type 0 where
  pub said : OutcomeSays (λ input. p.Done input e) (λ input. p.DonePart input e) p.Refuses e.input.told e.input.left outcome
  pub known : outcome ≢ outcomes.Usage
  pub kept : (p.MayWrite (status_of outcome) → ⊥) → e.out.Untouched
  pub read : InputRises (status_of outcome) e.input.failed e.input.failed_now
  pub write : OutputRises (status_of outcome) e.out.failed e.out.failed_now

-- what a command came to
pub record CarriedOut (p : Promise) (e : Effects) (status : Status) : Type 0 where
  -- status 0, 1 and 4 say of the input, of what is left of it, and of what was written what the promise says of them
  pub said : StatusSays (λ input. p.Done input e) (λ input. p.DonePart input e) p.Refuses e.input.told e.input.left status
  pub known : status ≢ statuses.Usage
  -- the output is as it was, but where the promise lets it be written
  pub kept : (p.MayWrite status → ⊥) → e.out.Untouched
  -- the count of the input's failed reads rose exactly with status 3, and with status 4 that of a sink of the promise
  pub read : InputRises status e.input.failed e.input.failed_now
  pub write : status ≡ statuses.WriteFault → p.WriteRose e
  -- the report got the line of the status, or a part of it where its count rose, or the command's own line
  pub line : (p.HasOwnLine status → ⊥) → ReportsStatus p.Refuses e.input.told status e.report.old e.report.new e.report.failed e.report.failed_now
  pub own_line : p.PutsOwnLine e.report status
  -- no count of a sink falls, and with status 0 none rose
  pub out_faults : NoneFailed status e.out.failed e.out.failed_now
  pub report_faults : NoneFailed status e.report.failed e.report.failed_now
  pub besides : p.Besides e status

-- the same, and every input that is accepted is done and every input that is refused is refused, but for memory, where nothing
-- failed
pub record KeepsPromise (p : Promise) (e : Effects) (status : Status) : Type 0 where
  pub carried_out : CarriedOut p e status
  pub accepted : (input : List ℕ) → e.input.told ≡ Some input → p.Accepts input → (Rose e.input.failed e.input.failed_now → ⊥) → (p.WriteRose e → ⊥) → p.EndsWith input status
  pub refused : (input : List ℕ) (refusal : Refusal) (rest : List ℕ) → e.input.told ≡ Some input → p.Refuses input refusal rest → IsOfInput refusal
      → (Rose e.input.failed e.input.failed_now → ⊥) → (p.WritesRefused → Rose e.out.failed e.out.failed_now → ⊥) → (status ≡ statuses.Refused) ⊎ (status ≡ statuses.Memory)

-- words that name nothing: nothing is read or written, and the report got the line that tells the usage
pub record TellsUsage (line : List ℕ) (e : Effects) (status : Status) : Type 0 where
  pub status_is : status ≡ statuses.Usage
  pub unread : e.input.Unread
  pub untouched : e.out.Untouched
  pub read : e.input.failed_now ≡ e.input.failed
  pub out_faults : e.out.failed_now ≡ e.out.failed
  pub report_faults : NoneFailed status e.report.failed e.report.failed_now
  pub usage_line : Reports line e.report.old e.report.new e.report.failed e.report.failed_now
