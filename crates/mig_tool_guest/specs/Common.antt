-- Names that several definitions and contracts of this crate use.
pub use Rattle.std.specs.Io.KnownBytes.{Appends}
pub use Rattle.mig_bytes.specs.Bytes.{AppendsPart, AreBytes}
pub use Rattle.mig_bytes.specs.Faults.{Rose, RisesOnReadFault}
pub use Rattle.mig_bytes.specs.Judged.Judged.{Faulty, Passes}
pub use Rattle.mig_canon.specs.CanonStream.{canon_any}
pub use Rattle.mig_guest.specs.Guests.{GuestOf}
pub use Rattle.mig_guest.specs.Hosts.{HostOf, IsValid, most_width}
pub use Rattle.mig_headers.specs.declared.fault.Cause.{Cause}
pub use Rattle.mig_headers.specs.declared.fault.Place.{Place}
pub use Rattle.mig_host_laws.specs.Standing.{Standing, in_host, in_stream}
pub use Rattle.mig_host_view.specs.Sound.{IsSound, unsoundness}
pub use Rattle.mig_host_view.specs.View.{view}
pub use Rattle.mig_image.specs.GuestImageForm.{host_at}
pub use Rattle.mig_libxl_form.specs.Spelled.{AcceptedStream}
pub use Rattle.mig_libxl_form.specs.Stream.{IsStreamRefused, StreamOf, stream_at}
pub use Rattle.mig_relay.specs.Relaying.{IsCutPart, IsWrittenPart, PassedWhole, RefusedPart}
pub use Rattle.mig_relay.specs.Streams.{IsOpenRefused, open_stream_at}
pub use Rattle.mig_relay.specs.declared.answer.Relayed.{Relayed}
pub use Rattle.mig_tool_report.specs.Outcome.{IsUnwritten, line_of, status_of}
pub use Rattle.mig_tool_report.specs.Promises.{CarriedOut, ComesTo, Effects, IsDoneOrStarved, IsPartCopied, Promise, copies_text, effects, input_effect, reports_line, sink_effect, unreached, writes_text}
pub use Rattle.mig_tool_report.specs.Report.{Reports, ok_line, relayed_line, walked_line, write_fault_line, checked_legacy_line, checked_line}
pub use Rattle.mig_tool_report.specs.Statuses.{EndsWithOwnLine, InputRises, OutcomeSays, OutputRises, PutsLineOrFault, Refusing}
pub use Rattle.mig_tool_report.specs.declared.outcome.Outcome.{Outcome}
pub use Rattle.mig_tool_report.specs.declared.outcome.Refusal.{Refusal}
pub use Rattle.mig_tool_report.specs.declared.outcome.RelaySummary.{RelaySummary}
pub use Rattle.mig_tool_report.specs.declared.outcome.WalkSummary.{WalkSummary}
pub use Rattle.mig_tool_report.specs.declared.status.Status.{Status}
pub use Rattle.mig_walk.specs.Walks.{IsWalked}
pub use Rattle.mig_legacy.specs.Spelled.{AcceptedLegacy}
pub use Rattle.mig_bytes.specs.Judged.{AgreesWithJudging}
pub use Rattle.mig_file.specs.Files.{failed_in, left_in}
pub use Rattle.mig_guest.specs.Formed.{IsFormed}
pub use Rattle.mig_libxl.specs.Placed.{IsPlacedStream}
pub use Rattle.mig_placed.specs.InFile.{frames_in_file}
pub use Rattle.mig_bytes.specs.Answers.{or_stop}
pub use Rattle.mig_tool_report.specs.Words.{IsBase}
pub use Rattle.mig_canon.specs.Elsewhere.{with_frames}
