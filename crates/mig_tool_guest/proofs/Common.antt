-- Names that many proofs of this crate use.
pub use Rattle.std.proofs.Common.{Err, List, None, Ok, Option, Result, Some, ap, arith, length, refl, rules, subst, sym, ℕ, ◌++◌, ◌∙◌, ◌≡◌}
pub use Rattle.std.specs.Io.KnownBytes.{Appends, Consumes}
pub use Rattle.std.specs.Prelude.{IfErr, IfOk, IfSome, OnOk, is_some, true, ◌≢◌, ◌≤◌, ◌⊎◌}
pub use Rattle.mig_bytes.specs.Bytes.{AppendsPart, AreBytes, Puts}
pub use Rattle.mig_bytes.specs.Judged.Judged.{Faulty, Passes}
pub use Rattle.mig_guest.specs.Frames.{FrameMap, IsFew}
pub use Rattle.mig_guest.specs.Guests.{GuestOf}
pub use Rattle.mig_guest.specs.Hosts.{HostOf, most_width}
pub use Rattle.mig_headers.specs.declared.fault.Cause.{Cause}
pub use Rattle.mig_headers.specs.declared.fault.Place.{Place}
pub use Rattle.mig_headers.specs.declared.kind.Kind.{Kind}
pub use Rattle.mig_headers.specs.declared.kind.Kind.TheVariants.{Hvm, Pv}
pub use Rattle.mig_host_laws.specs.Standing.{Standing, in_host, in_stream}
pub use Rattle.mig_legacy.specs.Spelled.{AcceptedLegacy}
pub use Rattle.mig_libxl.specs.Reads.{IsStreamComparison, IsStreamReading, IsStreamTally, ReadsStream}
pub use Rattle.mig_libxl_form.specs.Carried.{IsCarried}
pub use Rattle.mig_libxl_form.specs.Spelled.{AcceptedStream}
pub use Rattle.mig_libxl_form.specs.Stream.{StreamOf, emulators_in, guest_of, stream_at}
pub use Rattle.mig_restore.specs.declared.read.Reading.{Reading}
pub use Rattle.mig_restore_form.proofs.Meaning.{mean_kind, sent_kind}
pub use Rattle.mig_tool_guest.specs.Addresses.{AddressReported, FrameInHost, FrameInStream, HasUnsoundHost, HostHasFrame, HostHasNone, MeansFrame, MeansNone, StreamHasFrame, StreamHasNone, any_host_at}
pub use Rattle.mig_tool_guest.specs.Fronts.{Accepting, Checked, IsSummary, LegacyChecked, Normalised, PartWritten, Restored, Verified, input_with, restored_text, summary_of}
pub use Rattle.mig_tool_guest.specs.Outcomes.{outcome_of}
pub use Rattle.mig_tool_guest.specs.Promises.{HasFront, convert_promise, normalise_file_promise, normalise_promise, relay_promise, restore_file_promise, restore_promise, show_promise, verify_promise}
pub use Rattle.mig_tool_guest.specs.Refusals.{HasLegacyRefusal, HasOpenRefusal, HasStreamRefusal, HasWalkImageRefusal, HasWalkRefusal}
pub use Rattle.mig_tool_report.proofs.Promises.{copy_told, finished, input_same, line_put, never_failed, never_usage, no_line, own_line_alone, text_rose, text_told, text_written, unchanged, untouched_sink, unwritten}
pub use Rattle.mig_tool_report.proofs.Statuses.{line_reported, says_of}
pub use Rattle.mig_tool_report.specs.Outcome.{IsUnwritten, line_of, status_of}
pub use Rattle.mig_tool_report.specs.Promises.{CarriedOut, ComesTo, Effects, IsUntouched, Promise, SinkEffect, effects, input_effect, reports_line, sink_effect, unreached}
pub use Rattle.mig_tool_report.specs.Statuses.{InputRises, OutcomeSays, OutputRises, PutsLineOf, PutsLineOrFault, PutsSome, Refusing, StatusSays}
pub use Rattle.mig_tool_report.specs.Words.{IsBase}
pub use Rattle.mig_tool_report.specs.declared.outcome.Outcome.{Outcome}
pub use Rattle.mig_tool_report.specs.declared.outcome.Refusal.{Refusal}
pub use Rattle.mig_tool_report.specs.declared.outcome.WalkSummary.{WalkSummary}
pub use Rattle.mig_tool_report.specs.declared.status.Status.{Status}
pub use mathlib.Core.Logic.{inl, inr}
pub use Rattle.mig_bytes.specs.Faults.{RisesOnReadFault, Rose}
pub use Rattle.mig_canon.specs.CanonStream.{canon_any}
pub use Rattle.mig_host_view.specs.Sound.{IsSound, unsoundness}
pub use Rattle.mig_libxl_form.proofs.Laws.{accepted_is_stream, never_both, one_front}
pub use Rattle.mig_tool_guest.specs.Relays.{FrontRelayed, OutputStopped, PassableFront, PassedOn, ReportStopped, SaysRelayed, counts_of}
pub use Rattle.mig_tool_guest.specs.Shown.{FrontShown, IsShown, PartShown, SaysShown}
pub use Rattle.mig_tool_report.specs.Report.{Reports, checked_legacy_line, checked_line, ok_line, relayed_line, walked_line, write_fault_line}
pub use Rattle.mig_bytes.proofs.Joins.{any_stop}
pub use Rattle.mig_bytes.specs.Answers.{or_stop}
pub use Rattle.mig_bytes.specs.Judged.{AgreesWithJudging, Judged}
pub use Rattle.mig_bytes.specs.declared.answer.Answer.{Answer}
pub use Rattle.mig_bytes.specs.declared.failure.WriteFailed.{WriteFailed}
pub use Rattle.mig_canon.specs.Elsewhere.{with_frames}
pub use Rattle.mig_file.specs.Files.{failed_in, left_in}
pub use Rattle.mig_file.specs.declared.source.FileSource.{FileSource}
pub use Rattle.mig_legacy.specs.Legacy.{LegacyStream, mean_legacy}
pub use Rattle.mig_legacy.specs.Placed.{IsPlacedLegacy}
pub use Rattle.mig_legacy.specs.Stream.{legacy_at}
pub use Rattle.mig_libxl.specs.Placed.{IsPlacedStream}
pub use Rattle.mig_libxl_form.proofs.AcceptedWhole.{accepted_carried}
pub use Rattle.mig_libxl_form.specs.Emulators.{with_emulators}
pub use Rattle.mig_outline.specs.Outline.{outline}
pub use Rattle.mig_pagestore_index.specs.Indexed.{ValueMap}
pub use Rattle.mig_placed.proofs.Seen.{all_placed}
pub use Rattle.mig_placed.specs.InFile.{frames_in_file}
pub use Rattle.mig_placed.specs.Runs.{frames_after}
pub use Rattle.mig_placing.specs.declared.guest.PlacedGuest.{PlacedGuest}
pub use Rattle.mig_restore_form.specs.Mean.{differs_of, sent}
unfoldable pub use Rattle.mig_restore_form.specs.Mean.{mean}
pub use Rattle.mig_restore_form.specs.Stream.{ImageOf}
pub use Rattle.mig_tool_report.specs.declared.outcome.Summary.{Summary}
pub use Rattle.std.proofs.lemmas.Option.{same_Some}
