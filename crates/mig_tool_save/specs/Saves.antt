-- What `save` says: of the input, of what is left of it, of what was written, and of the report.
use Rattle.std.specs.Prelude.{◌≡◌, ◌⊎◌, ℕ, List, [], Some, Option}
use Rattle.mig_tool_save.specs.Common.{AppendsPart, Rose, Faulty, Unsound, HostOf, Refusal, SaveSummary, Status, Reports, refusal_line, write_fault_line, saved_line, Effects, NamesRefusal, LineOf, WroteNoStream}
use Rattle.mig_tool_report.specs.declared.outcome.Refusal.TheVariants as refusals
use Rattle.mig_tool_report.specs.declared.status.Status.TheVariants as statuses
use Rattle.mig_tool_save.specs.LiveSaves.{HasHostAndScript, HasBadLine, HasLongScript, HasUnsoundPause, WroteLive, saved_host_at}

-- ---- when it is refused

-- the image of a host and a script have this refusal, and rest follows the faulty part
abbrev pub HasSaveRefusal : List ℕ → Refusal → List ℕ → Type 0
HasSaveRefusal input (refusals.Image place cause) rest = saved_host_at input ≡ Faulty (place, cause) rest
HasSaveRefusal input (refusals.BadLine line) rest = HasBadLine input line × (rest ≡ [])
HasSaveRefusal input refusals.TooLong rest = HasLongScript input rest
HasSaveRefusal input (refusals.Pause unsound) rest = HasUnsoundPause input unsound × (rest ≡ [])
HasSaveRefusal input _ rest = ⊥

-- ---- what it comes to

-- the input is a host and a script, all of it is taken, what a saver has to write of the host was written, and its line was
-- reported
pub record LiveSaved (Reported : List ℕ → Type 0) (input : List ℕ) (left old new : Option (List ℕ)) : Type 0 where
  pub host : HostOf
  pub lines : List LineOf
  pub read : HasHostAndScript input host lines
  pub left_is : left ≡ Some []
  pub summary : SaveSummary
  pub wrote : WroteLive host lines old new summary
  pub reported : Reported (saved_line summary)

-- the same input, but a write failed: no front of what was written is an accepted stream
pub record LiveBroken (input : List ℕ) (left old new : Option (List ℕ)) : Type 0 where
  pub host : HostOf
  pub lines : List LineOf
  pub read : HasHostAndScript input host lines
  pub left_is : left ≡ Some []
  pub no_stream : WroteNoStream old new

-- what comes of a host and a script where nothing fails: it is saved, or refused at the pause, or there is no memory
abbrev pub IsSavedOrPaused : List ℕ → Status → Type 0
IsSavedOrPaused input status = (status ≡ statuses.Done) ⊎ (((status ≡ statuses.Refused) × (unsound : Unsound) × HasUnsoundPause input unsound) ⊎ (status ≡ statuses.Memory))

-- ---- where it isn't done

-- the host at the pause is refused, and the report got the line of that, or a part of it where its count rose
abbrev pub RefusesPause : Option (List ℕ) → Option (List ℕ) → Option (List ℕ) → ℕ → ℕ → Type 0
RefusesPause told old new before now = (unsound : Unsound) × NamesRefusal HasSaveRefusal told (refusals.Pause unsound) × Reports (refusal_line (refusals.Pause unsound)) old new before now

-- a write of the output failed, no front of what was written is an accepted stream, and the report got the line of that
pub record OutputBroke (e : Effects) : Type 0 where
  pub rose : Rose e.out.failed e.out.failed_now
  pub no_stream : WroteNoStream e.out.old e.out.new
  pub line : Reports write_fault_line e.report.old e.report.new e.report.failed e.report.failed_now

-- the stream of a host and a script was written whole, and of its line a part was reported, since a write of the report failed
pub record ReportBroke (e : Effects) : Type 0 where
  pub host : HostOf
  pub lines : List LineOf
  pub summary : SaveSummary
  pub wrote : WroteLive host lines e.out.old e.out.new summary
  pub quiet : e.out.failed_now ≡ e.out.failed
  pub rose : Rose e.report.failed e.report.failed_now
  pub reported : AppendsPart e.report.old e.report.new (saved_line summary)

abbrev pub BreaksOff : Effects → Type 0
BreaksOff e = OutputBroke e ⊎ ReportBroke e

-- what a save that isn't done came to. Where it is refused, the output is untouched or the pause is refused, and no front of
-- what was written is an accepted stream; with status 4 it broke off.
pub record BreaksSave (status : Status) (e : Effects) : Type 0 where
  pub refused : status ≡ statuses.Refused → e.out.Untouched ⊎ RefusesPause e.input.told e.report.old e.report.new e.report.failed e.report.failed_now
  pub no_stream : status ≡ statuses.Refused → WroteNoStream e.out.old e.out.new
  pub broke : status ≡ statuses.WriteFault → BreaksOff e
