-- What a command came to.
use Rattle.std.specs.Prelude.{ℕ, List, [], ⊤}
use Rattle.mig_tool_report.specs.declared.outcome.Outcome.{Outcome}
use Rattle.mig_tool_report.specs.declared.outcome.Outcome.TheVariants as outcomes
use Rattle.mig_tool_report.specs.declared.status.Status.{Status}
use Rattle.mig_tool_report.specs.declared.status.Status.TheVariants as statuses
use Rattle.mig_tool_report.specs.Report.{refusal_line, usage_line, read_fault_line, write_fault_line, memory_line}

abbrev pub status_of : Outcome → Status
status_of outcomes.Done = statuses.Done
status_of (outcomes.Refused refusal) = statuses.Refused
status_of outcomes.Usage = statuses.Usage
status_of outcomes.ReadFault = statuses.ReadFault
status_of outcomes.WriteFault = statuses.WriteFault
status_of outcomes.Memory = statuses.Memory

-- an outcome before which nothing is written
abbrev pub IsUnwritten : Outcome → Type 0
IsUnwritten (outcomes.Refused refusal) = ⊤
IsUnwritten outcomes.ReadFault = ⊤
IsUnwritten outcomes.Memory = ⊤
IsUnwritten _ = ⊥

-- the line that goes with it
abbrev pub line_of : Outcome → List ℕ
line_of outcomes.Done = []
line_of (outcomes.Refused refusal) = refusal_line refusal
line_of outcomes.Usage = usage_line
line_of outcomes.ReadFault = read_fault_line
line_of outcomes.WriteFault = write_fault_line
line_of outcomes.Memory = memory_line

-- the exit code of the program
abbrev pub exit_code : Status → ℕ
exit_code statuses.Done = 0
exit_code statuses.Refused = 1
exit_code statuses.Usage = 2
exit_code statuses.ReadFault = 3
exit_code statuses.WriteFault = 4
exit_code statuses.Memory = 5
