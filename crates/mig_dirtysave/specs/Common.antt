-- Names that several definitions and contracts of this crate use.
pub use Rattle.std.specs.Io.KnownBytes.{Appends}
pub use Rattle.std.specs.List.{AllByRecursion}
pub use Rattle.mig_bytes.specs.Bytes.{AppendsPart}
pub use Rattle.mig_bytes.specs.Faults.{FaultHasCause}
pub use Rattle.mig_canon.specs.Canon.{headers}
pub use Rattle.mig_canon.specs.CanonStream.{bare_guest, opening_text, wrapper_closing, wrapper_opening}
pub use Rattle.mig_dirtysave_parts.specs.KeptParts.{HoldsParts, SameEmulators, SameSettings, is_early, is_setting}
pub use Rattle.mig_dirtysave_parts.specs.SaveTexts.{ClosesStream, IsOtherRecord, StopsBehind, settings_seen}
pub use Rattle.mig_dirtysave_rounds.specs.Causes.{AnswerHasCause, FaultsHaveCauses}
pub use Rattle.mig_dirtysave_rounds.specs.Entries.{AreTold, TellMost, frames_meant, pfns_sent}
pub use Rattle.mig_dirtysave_rounds.specs.Live.{AnswersTables, HasRounds, IsUnsound, KeepsShape, ReadsExactly, SawTypes, forms, tables_unsound}
pub use Rattle.mig_dirtysave_rounds.specs.Parts.{entries_read}
pub use Rattle.mig_guest.specs.Formed.{IsFormed}
pub use Rattle.mig_guest.specs.Guests.{GuestOf}
pub use Rattle.mig_guest.specs.History.{History, no_history}
pub use Rattle.mig_guest.specs.Hosts.{HostFrame, HostOf, IsValid, pfn_in}
pub use Rattle.mig_guest.specs.MachineStates.{IsValidState, MachineState, Ran}
pub use Rattle.mig_guest.specs.Parts.{PartMap, parts_code}
pub use Rattle.mig_guest.specs.declared.part_key.PartKey.{PartKey}
pub use Rattle.mig_headers.specs.declared.kind.Kind.{Kind}
pub use Rattle.mig_headers.specs.declared.kind.Kind.TheVariants.{Hvm, Pv}
pub use Rattle.mig_headers.specs.declared.unsound.Unsound.{Unsound}
pub use Rattle.mig_host_laws.specs.FirstRow.{names_ill, row_1, row_2, row_3, row_4, row_5, row_6}
pub use Rattle.mig_host_laws.specs.Standing.{Standing, before_saver, in_host, is_of_no_type}
pub use Rattle.mig_host_laws.specs.Unsoundness.{UnsoundHas}
pub use Rattle.mig_host_view.specs.Sound.{IsSound, unsoundness}
pub use Rattle.mig_host_view.specs.View.{view}
pub use Rattle.mig_libxl_form.specs.Spelled.{AcceptedStream}
pub use Rattle.mig_pvtables.specs.Blank.{each_value}
pub use Rattle.mig_pvtables.specs.Faults.{field_numbers, find_misplaced, first_cause, fits_field, is_needed}
pub use Rattle.mig_pvtables.specs.VcpuContexts.{is_used_somewhere}
pub use Rattle.mig_records.specs.Records.{IsRecord, Record, spelled, text_of}
pub use Rattle.mig_records_pages.specs.Batches.{AreSized}
pub use Rattle.mig_records_pages.specs.Told.{FrameTold, all_told, telling_frames, telling_record}
pub use Rattle.mig_records_pages.specs.Written.{AreRecordsWithin, WroteAll, WroteSome}
