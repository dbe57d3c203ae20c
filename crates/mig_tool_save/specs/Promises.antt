-- What each command that saves a host live promises.
use Rattle.std.specs.Prelude.{◌≡◌, ◌⊎◌, ℕ, List}
use Rattle.mig_tool_save.specs.Common.{Appends, AppendsPart, Rose, HostOf, LineOf, Promise, reports_line, exercised_line, saved_line, EndsWithOwnLine, PutsLineOrFault}
use Rattle.mig_tool_report.specs.declared.status.Status.TheVariants as statuses
use Rattle.mig_tool_save.specs.Exercises.{ExerciseReported, SaysExercise}
use Rattle.mig_tool_save.specs.LiveSaves.{HasHostAndScript}
use Rattle.mig_tool_save.specs.Saves.{BreaksSave, HasSaveRefusal, IsSavedOrPaused, LiveBroken, LiveSaved}

-- the input is the image of a host, and a script
pub record IsHostAndScript (input : List ℕ) : Type 0 where
  pub host : HostOf
  pub lines : List LineOf
  pub is : HasHostAndScript input host lines

-- `save` takes the image of a host and a script, writes the host as a stream while the script runs, and reports how. Such an
-- input is saved or refused at the pause; what runs up to a pause that is refused may be written before.
abbrev pub save_promise : Promise
save_promise = record {
  Accepts = IsHostAndScript;
  EndsWith = IsSavedOrPaused;
  Refuses = HasSaveRefusal;
  Done = λ input e. LiveSaved (Appends e.report.old e.report.new) input e.input.left e.out.old e.out.new;
  DonePart = λ input e. LiveBroken input e.input.left e.out.old e.out.new ⊎ LiveSaved (AppendsPart e.report.old e.report.new) input e.input.left e.out.old e.out.new;
  WriteRose = λ e. Rose e.out.failed e.out.failed_now ⊎ Rose e.report.failed e.report.failed_now;
  HasOwnLine = EndsWithOwnLine;
  PutsOwnLine = λ report status. PutsLineOrFault saved_line report.old report.new status;
  MayWrite = λ status. (status ≡ statuses.Refused) ⊎ ((status ≡ statuses.Done) ⊎ (status ≡ statuses.WriteFault));
  WritesRefused = ⊥;
  Besides = λ e status. BreaksSave status e;
}

-- `exercise` reads nothing: it makes an exercise of so many frames, and reports what it came to; it is never refused
abbrev pub exercise_promise : ℕ → ℕ → Promise
exercise_promise seed n = record (reports_line exercised_line (λ input. ⊥) (λ input refusal rest. ⊥) (λ Reported input left. ExerciseReported Reported seed n)) {
  Besides = λ e status. e.input.Unread × SaysExercise seed n e.report.old e.report.new status;
}
