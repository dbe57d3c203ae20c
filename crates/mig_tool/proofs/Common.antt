-- Names that many proofs of this crate use.
pub use Rattle.std.proofs.Common.{List, Option, Some, refl, subst, sym, ℕ, ◌≡◌}
pub use Rattle.std.specs.Prelude.{◌⊎◌}
pub use Rattle.mig_tool_report.specs.declared.command.Command.{Command}
pub use Rattle.mig_tool_report.specs.declared.outcome.Refusal.{Refusal}
pub use Rattle.mig_tool_guest.specs.Refusals.{HasLegacyRefusal, HasOpenRefusal, HasStreamRefusal, HasWalkImageRefusal, HasWalkRefusal}
pub use Rattle.mig_tool_report.specs.Promises.{CarriedOut, Effects, IsOfInput, effects, input_effect, sink_effect}
pub use Rattle.mig_libxl_form.specs.Spelled.{AcceptedStream}
pub use Rattle.mig_tool_guest.specs.Addresses.{AddressReported, FrameInHost, FrameInStream, HostHasFrame, StreamHasFrame}
pub use Rattle.mig_tool_guest.specs.Fronts.{Verified}
pub use Rattle.mig_tool_guest.specs.Promises.{HasFront}
pub use Rattle.mig_tool_report.proofs.Naming.{same_command}
pub use Rattle.mig_tool_report.proofs.Promises.{beside}
pub use Rattle.mig_tool_report.specs.Report.{ok_line, walked_line}
