-- What a status says, whichever the command is: of the input, of the counts of failed calls, and of the line on the report.
use Rattle.std.specs.Prelude.{◌≡◌, ◌≤◌, ◌⊎◌, ℕ, List, [], ⊤, Some, None, Option}
use Rattle.mig_tool_report.specs.Common.{Appends, AppendsPart, Rose}
use Rattle.mig_tool_report.specs.declared.outcome.Outcome.{Outcome}
use Rattle.mig_tool_report.specs.declared.outcome.Outcome.TheVariants as outcomes
use Rattle.mig_tool_report.specs.declared.outcome.Refusal.{Refusal}
use Rattle.mig_tool_report.specs.declared.status.Status.{Status}
use Rattle.mig_tool_report.specs.declared.status.Status.TheVariants as statuses
use Rattle.mig_tool_report.specs.Report.{Reports, refusal_line, usage_line, read_fault_line, write_fault_line, memory_line}

-- that an input has this refusal, and what follows the faulty part
abbrev pub Refusing : Type 1
Refusing = List ℕ → Refusal → List ℕ → Type 0

-- the input is refused, and what follows the faulty part is left
pub record Rejected (Has : Refusing) (input : List ℕ) (left : Option (List ℕ)) : Type 0 where
  pub refusal : Refusal
  pub rest : List ℕ
  pub refused : Has input refusal rest
  pub left_is : left ≡ Some rest

-- Of an input that tells its bytes: it is done, or a part of it where a write failed, or it has a refusal of these and was
-- taken up to the end of the faulty part. A read fault and want of memory say nothing, and status 2 is that of no command.
abbrev pub StatusSays : (Done Part : List ℕ → Type 0) → Refusing → Option (List ℕ) → Option (List ℕ) → Status → Type 0
StatusSays Done Part Has None left status = ⊤
StatusSays Done Part Has (Some input) left statuses.Done = Done input
StatusSays Done Part Has (Some input) left statuses.Refused = Rejected Has input left
StatusSays Done Part Has (Some input) left statuses.Usage = ⊥
StatusSays Done Part Has (Some input) left statuses.ReadFault = ⊤
StatusSays Done Part Has (Some input) left statuses.WriteFault = Part input
StatusSays Done Part Has (Some input) left statuses.Memory = ⊤

-- the same of what a command came to, which has the refusal
abbrev pub OutcomeSays : (Done Part : List ℕ → Type 0) → Refusing → Option (List ℕ) → Option (List ℕ) → Outcome → Type 0
OutcomeSays Done Part Has None left outcome = ⊤
OutcomeSays Done Part Has (Some input) left outcomes.Done = Done input
OutcomeSays Done Part Has (Some input) left (outcomes.Refused refusal) = (rest : List ℕ) × Has input refusal rest × (left ≡ Some rest)
OutcomeSays Done Part Has (Some input) left outcomes.Usage = ⊥
OutcomeSays Done Part Has (Some input) left outcomes.ReadFault = ⊤
OutcomeSays Done Part Has (Some input) left outcomes.WriteFault = Part input
OutcomeSays Done Part Has (Some input) left outcomes.Memory = ⊤

-- ---- counts of failed calls

-- the count of the input rises with a read fault, and with every other status it stands as it was
abbrev pub InputRises : Status → ℕ → ℕ → Type 0
InputRises statuses.ReadFault before now = (before ≤ now) × Rose before now
InputRises _ before now = now ≡ before

-- the count of the sink that the command writes on rises with a write fault, and with every other status it stands as it was
abbrev pub OutputRises : Status → ℕ → ℕ → Type 0
OutputRises statuses.WriteFault before now = (before ≤ now) × Rose before now
OutputRises _ before now = now ≡ before

-- the count of a sink never falls, and with status 0 it stands as it was
pub record NoneFailed (status : Status) (before now : ℕ) : Type 0 where
  pub later : before ≤ now
  pub done : status ≡ statuses.Done → now ≡ before

-- ---- the line of a status

-- the refusal that is named is one of the input, where it tells its bytes
abbrev pub NamesRefusal : Refusing → Option (List ℕ) → Refusal → Type 0
NamesRefusal Has None refusal = ⊤
NamesRefusal Has (Some input) refusal = (rest : List ℕ) × Has input refusal rest

-- status 0 of a command that puts no line of its own has none
abbrev pub IsStatusLine : Refusing → Option (List ℕ) → Status → List ℕ → Type 0
IsStatusLine Has told statuses.Done line = line ≡ []
IsStatusLine Has told statuses.Refused line = (refusal : Refusal) × (line ≡ refusal_line refusal) × NamesRefusal Has told refusal
IsStatusLine Has told statuses.Usage line = line ≡ usage_line
IsStatusLine Has told statuses.ReadFault line = line ≡ read_fault_line
IsStatusLine Has told statuses.WriteFault line = line ≡ write_fault_line
IsStatusLine Has told statuses.Memory line = line ≡ memory_line

-- that line was reported, or a part of it where the count of the report rose
abbrev pub ReportsStatus : Refusing → Option (List ℕ) → Status → Option (List ℕ) → Option (List ℕ) → ℕ → ℕ → Type 0
ReportsStatus Has told status old new before now = (line : List ℕ) × IsStatusLine Has told status line × Reports line old new before now

-- ---- a line of a command's own

-- with these statuses it may have put that line, or a part of it
abbrev pub EndsWithOwnLine : Status → Type 0
EndsWithOwnLine statuses.Done = ⊤
EndsWithOwnLine statuses.WriteFault = ⊤
EndsWithOwnLine status = ⊥

-- it is the line of some such values, whole with status 0, and a part of it with status 4
abbrev pub PutsLineOf : {Summary : Type 0} → (Summary → List ℕ) → Option (List ℕ) → Option (List ℕ) → Status → Type 0
PutsLineOf {Summary} line_of old new statuses.Done = (s : Summary) × Appends old new (line_of s)
PutsLineOf {Summary} line_of old new statuses.WriteFault = (s : Summary) × AppendsPart old new (line_of s)
PutsLineOf {Summary} line_of old new status = ⊤

-- all of the line was put, or a part of it
abbrev pub PutsSome : List ℕ → Option (List ℕ) → Option (List ℕ) → Type 0
PutsSome line old new = Appends old new line ⊎ AppendsPart old new line

-- the same where the command writes on the output too: where that failed, the line says that a write failed
abbrev pub PutsLineOrFault : {Summary : Type 0} → (Summary → List ℕ) → Option (List ℕ) → Option (List ℕ) → Status → Type 0
PutsLineOrFault {Summary} line_of old new statuses.Done = (s : Summary) × Appends old new (line_of s)
PutsLineOrFault {Summary} line_of old new statuses.WriteFault = ((s : Summary) × AppendsPart old new (line_of s)) ⊎ PutsSome write_fault_line old new
PutsLineOrFault {Summary} line_of old new status = ⊤
