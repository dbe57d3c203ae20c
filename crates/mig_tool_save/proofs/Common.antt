-- Names that many proofs of this crate use.
pub use Rattle.std.proofs.Common.{Err, List, None, Ok, Option, Result, Some, [], ap, arith, length, refl, rules, subst, sym, ℕ, ◌++◌, ◌∙◌, ◌≡◌}
pub use Rattle.std.specs.Prelude.{OnOk, drop, map, ◌*◌, ◌+◌, ◌∷◌, ◌≢◌, ◌≤◌, ◌⊎◌}
pub use Rattle.mig_bytes.specs.Faults.{RisesOnReadFault, Rose}
pub use Rattle.mig_bytes.specs.Judged.Judged.{Faulty, Passes}
pub use Rattle.mig_canon.specs.Canon.{headers}
pub use Rattle.mig_canon.specs.CanonStream.{canon_any, wrapper_closing, wrapper_opening}
pub use Rattle.mig_dirtysave.specs.SaveAnswers.{EndsUnsound, IsTrusted, PausesMachine, SaveEnds, SaveWritten}
pub use Rattle.mig_dirtysave.specs.declared.answer.SaveAnswer.{SaveAnswer}
pub use Rattle.mig_dirtysave_rounds.specs.Live.{HasRounds}
pub use Rattle.mig_exercise.specs.ExerciseHosts.{IsExerciseSize, data_count, exercise_canon_len, host_of_exercise}
pub use Rattle.mig_exercise.specs.ExerciseScripts.{script_of_exercise}
pub use Rattle.mig_guest.specs.Guests.{GuestOf}
pub use Rattle.mig_guest.specs.Hosts.{HostOf, most_saved_width}
pub use Rattle.mig_headers.specs.declared.unsound.Unsound.{Unsound}
pub use Rattle.mig_host_view.specs.Sound.{unsoundness}
pub use Rattle.mig_host_view.specs.View.{view}
pub use Rattle.mig_libxl_form.specs.Spelled.{AcceptedStream}
pub use Rattle.mig_machine.specs.MachineSeen.{MachineSeen, history_of, machine_state}
pub use Rattle.mig_machine.specs.Paced.{HasPaces, Paced, pfns_paced}
pub use Rattle.mig_machine_script.specs.ScriptLines.{LineOf}
pub use Rattle.mig_tool_report.specs.declared.outcome.Outcome.{Outcome}
pub use Rattle.mig_tool_report.specs.declared.outcome.Refusal.{Refusal}
pub use Rattle.mig_tool_report.specs.declared.outcome.SaveSummary.{SaveSummary}
pub use Rattle.mig_tool_save.specs.LiveSaves.{HasHostAndScript, HasUnsoundPause, WroteLive, WroteLiveTo, paused_host, saved_host_at}
pub use Rattle.mig_tool_save.specs.SaveSteps.{ComesToNone, ReadsHostAndScript, ReadsHostToSave, StopsAt, outcome_of_stop, stop_of_script}
pub use Rattle.mig_tool_save.specs.Saves.{HasSaveRefusal}
pub use mathlib.Core.List.{append-nil}
pub use mathlib.Core.Logic.{inl, inr}
pub use Rattle.mig_dirtysave.specs.Unread.{WroteNoStream}
pub use Rattle.mig_machine_script.specs.Scripts.{IsBadLine, most_script_bytes}
pub use Rattle.mig_tool_report.proofs.Promises.{finished, input_same, never_failed, never_usage, own_line_alone, unchanged, unwritten}
pub use Rattle.mig_tool_report.specs.Promises.{CarriedOut, Effects, IsOfInput, effects, input_effect, sink_effect}
pub use Rattle.mig_tool_report.specs.Report.{Reports, exercised_line, memory_line, saved_line, write_fault_line}
pub use Rattle.mig_tool_report.specs.Statuses.{EndsWithOwnLine, InputRises, NamesRefusal, OutcomeSays, PutsLineOf, PutsLineOrFault, ReportsStatus, StatusSays}
pub use Rattle.mig_tool_report.specs.declared.status.Status.{Status}
pub use Rattle.mig_tool_save.specs.Promises.{exercise_promise, save_promise}
