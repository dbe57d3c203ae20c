-- Names that many proofs of this crate use.
pub use Rattle.std.proofs.Common.{Err, List, None, Ok, Option, Result, Some, [], ap, arith, drop, get_or, length, refl, rules, subst, sym, ℕ, ◌*◌, ◌+◌, ◌<◌, ◌^◌, ◌∙◌, ◌≡◌, ◌≤◌}
pub use Rattle.std.specs.Prelude.{decimal, ◌≢◌, ◌⊎◌}
pub use Rattle.mig_bytes.proofs.Texts.{puts_same, puts_stop, puts_then}
pub use Rattle.mig_tool_report.specs.Outcome.{IsUnwritten, line_of, status_of}
pub use Rattle.mig_tool_report.specs.Words.{IsBase, IsFrameNumber, NamePlace, Names, hex_behind}
pub use Rattle.mig_tool_report.specs.declared.command.Command.{Command}
pub use Rattle.mig_bytes.specs.Bytes.{AppendsPart, Puts}
pub use Rattle.mig_bytes.specs.Faults.{FaultHasCause, Rose}
pub use Rattle.mig_tool_report.specs.Report.{Reports, text_of_walk_end}
pub use Rattle.mig_tool_report.specs.Statuses.{EndsWithOwnLine, InputRises, IsStatusLine, NoneFailed, OutcomeSays, OutputRises, PutsLineOf, Refusing, ReportsStatus, StatusSays}
pub use Rattle.mig_tool_report.specs.declared.outcome.Outcome.{Outcome}
pub use Rattle.mig_tool_report.specs.declared.status.Status.{Status}
pub use Rattle.std.proofs.lemmas.Fmt.{decimal_injective, parse-decimal}
pub use mathlib.Core.Logic.{inl, inr}
