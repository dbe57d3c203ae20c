-- A stream that is passed on: what was taken, and what was written of it.
use Rattle.std.specs.Prelude.{◌≡◌, ◌⊎◌, ℕ, List, Option, Some}
use Rattle.mig_tool_guest.specs.Common.{AppendsPart, Rose, Passes, Cause, Place, StreamOf, open_stream_at, PassedWhole, RefusedPart, IsCutPart, IsWrittenPart, Relayed, Reports, relayed_line, write_fault_line, RelaySummary, Status, Effects}
use Rattle.mig_tool_report.specs.declared.status.Status.TheVariants as statuses

-- a front of the input may pass, and rest follows it
pub record PassableFront (input rest : List ℕ) : Type 0 where
  pub s : StreamOf
  pub passes : open_stream_at input ≡ Passes s rest

-- the numbers of what was passed on
abbrev pub counts_of : RelaySummary → Relayed
counts_of summary = record { records = summary.records; bytes = summary.bytes }

-- A front of the input may pass, and just this front was taken and written. So many records has its image, and so many bytes
-- has it.
abbrev pub PassedOn : Option (List ℕ) → Option (List ℕ) → Option (List ℕ) → Option (List ℕ) → RelaySummary → Type 0
PassedOn told left old new summary = PassedWhole told left old new (counts_of summary)

-- the same, and rest follows the front in the input; its line was reported
pub record FrontRelayed (Reported : List ℕ → Type 0) (input : List ℕ) (left old new : Option (List ℕ)) : Type 0 where
  pub rest : List ℕ
  pub front : PassableFront input rest
  pub left_is : left ≡ Some rest
  pub summary : RelaySummary
  pub passed : PassedOn (Some input) left old new summary
  pub reported : Reported (relayed_line summary)

-- What was written is some first bytes of what was taken, whatever the status.
-- With status 0 it is the whole of it, and that may pass.
-- With status 1 it is all that was passed on: in front of the refused part, or inside it where that is a body.
-- With status 3, 4 and 5 it ends inside a part, without a cause. Where status 4 is the report's alone, it is as with status 0.
-- With status 5 it is all that was passed on; with status 3 too, or a write of the output failed besides.
-- Where it isn't the whole, no front of it is an accepted stream. A relay never tells the usage.
abbrev pub SaysRelayed : Status → Effects → Type 0
SaysRelayed statuses.Done e = (summary : RelaySummary) × PassedOn e.input.told e.input.left e.out.old e.out.new summary
SaysRelayed statuses.WriteFault e = IsCutPart e.input.told e.input.left e.out.old e.out.new ⊎ ((summary : RelaySummary) × PassedOn e.input.told e.input.left e.out.old e.out.new summary)
SaysRelayed statuses.Refused e = (place : Place) × (cause : Cause) × RefusedPart e.input.told e.input.left e.out.old e.out.new place cause
SaysRelayed statuses.ReadFault e = IsWrittenPart e.input.told e.input.left e.out.old e.out.new ⊎ (IsCutPart e.input.told e.input.left e.out.old e.out.new × Rose e.out.failed e.out.failed_now)
SaysRelayed statuses.Memory e = IsWrittenPart e.input.told e.input.left e.out.old e.out.new
SaysRelayed statuses.Usage e = ⊥

-- a write of the output failed, what was written ends inside a part, without a cause, and the report got the line of that
pub record OutputStopped (e : Effects) : Type 0 where
  pub rose : Rose e.out.failed e.out.failed_now
  pub part : IsCutPart e.input.told e.input.left e.out.old e.out.new
  pub line : Reports write_fault_line e.report.old e.report.new e.report.failed e.report.failed_now

-- all was passed on, and of its line a part was reported, since a write of the report failed
pub record ReportStopped (e : Effects) : Type 0 where
  pub summary : RelaySummary
  pub passed : PassedOn e.input.told e.input.left e.out.old e.out.new summary
  pub quiet : e.out.failed_now ≡ e.out.failed
  pub rose : Rose e.report.failed e.report.failed_now
  pub reported : AppendsPart e.report.old e.report.new (relayed_line summary)

-- a relay whose output broke off, or whose report
abbrev pub RelayBreaksOff : Effects → Type 0
RelayBreaksOff e = OutputStopped e ⊎ ReportStopped e

-- what a relay came to, whatever its status; with status 4 it broke off
pub record Relays (status : Status) (e : Effects) : Type 0 where
  pub says : SaysRelayed status e
  pub broke : status ≡ statuses.WriteFault → RelayBreaksOff e
