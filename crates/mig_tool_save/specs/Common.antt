-- Names that several definitions and contracts of this crate use.
pub use Rattle.std.specs.Io.KnownBytes.{Appends}
pub use Rattle.mig_bytes.specs.Bytes.{AppendsPart}
pub use Rattle.mig_bytes.specs.Faults.{RisesOnReadFault, Rose}
pub use Rattle.mig_bytes.specs.Judged.Judged.{Faulty, Passes}
pub use Rattle.mig_canon.specs.CanonStream.{canon_any, wrapper_closing, wrapper_opening}
pub use Rattle.mig_dirtysave.specs.Unread.{WroteNoStream}
pub use Rattle.mig_exercise.specs.ExerciseHosts.{data_count, exercise_canon_len, host_of_exercise}
pub use Rattle.mig_exercise.specs.ExerciseScripts.{script_of_exercise}
pub use Rattle.mig_guest.specs.Hosts.{HostOf, most_saved_width}
pub use Rattle.mig_headers.specs.declared.image_fault.ImageCause.{ImageCause}
pub use Rattle.mig_headers.specs.declared.image_fault.ImagePlace.{ImagePlace}
pub use Rattle.mig_headers.specs.declared.unsound.Unsound.{Unsound}
pub use Rattle.mig_host_view.specs.Sound.{unsoundness}
pub use Rattle.mig_host_view.specs.View.{view}
pub use Rattle.mig_libxl_form.specs.Spelled.{AcceptedStream}
pub use Rattle.mig_machine.specs.Paced.{Paced, pfns_paced}
pub use Rattle.mig_machine_script.specs.ScriptLines.{LineOf}
pub use Rattle.mig_tool_report.specs.Promises.{CarriedOut, Effects, IsOfInput, Promise, effects, input_effect, reports_line, sink_effect}
pub use Rattle.mig_tool_report.specs.Report.{Reports, exercised_line, memory_line, refusal_line, saved_line, write_fault_line}
pub use Rattle.mig_tool_report.specs.Statuses.{EndsWithOwnLine, NamesRefusal, PutsLineOrFault}
pub use Rattle.mig_tool_report.specs.declared.outcome.Refusal.{Refusal}
pub use Rattle.mig_tool_report.specs.declared.outcome.SaveSummary.{SaveSummary}
pub use Rattle.mig_tool_report.specs.declared.status.Status.{Status}
