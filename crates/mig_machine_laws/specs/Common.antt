-- Names that several definitions and contracts of this crate use.
pub use Rattle.std.specs.List.{range_with_len}
pub use Rattle.byteorder.specs.Endian.{little_bytes}
pub use Rattle.mig_bytes.specs.Fields.{le32}
pub use Rattle.mig_canon.specs.Canon.{batch, batches, bodies_of}
pub use Rattle.mig_exercise.specs.ExerciseHosts.{IsExerciseSize, exercise_context, exercise_machine, exercise_p2m_list, exercise_page, exercise_type, first_contents, host_of_exercise, p2m_frame_count, page_of_zeros}
pub use Rattle.mig_exercise.specs.ExerciseScripts.{exercise_write, script_of_exercise}
pub use Rattle.mig_exercise.specs.Numbers.{number}
pub use Rattle.mig_guest.specs.Footprints.{footprint_of}
pub use Rattle.mig_guest.specs.Guests.{GuestOf}
pub use Rattle.mig_guest.specs.History.{History, LogTook}
pub use Rattle.mig_guest.specs.Hosts.{HostFrame, HostFrames, HostOf, pfn_in}
pub use Rattle.mig_guest.specs.Longs.{long_at}
pub use Rattle.mig_guest.specs.PartKeys.{p2m_key, shared_key, vcpu_key}
pub use Rattle.mig_guest.specs.Pfns.{Pfns, all_below, no_pfns, size}
pub use Rattle.mig_guest.specs.Rounds.{Rounds, to_read}
pub use Rattle.mig_headers.specs.declared.kind.Kind.{Kind}
pub use Rattle.mig_headers.specs.declared.kind.Kind.TheVariants.{Hvm, Pv}
pub use Rattle.mig_machine_script.specs.HostLines.{after_line, applies, logged_after}
pub use Rattle.mig_machine_script.specs.ScriptLines.{LineOf}
pub use Rattle.mig_pagetypes.specs.PageTypes.{level_of, type_has_data, type_of}
pub use Rattle.mig_pagetypes.specs.declared.page_type.PageType.{PageType}
pub use Rattle.mig_pvtables.specs.Faults.{fits_field}
pub use Rattle.mig_pvtables.specs.P2mPages.{p2m_page}
pub use Rattle.mig_records.specs.Records.{Record}
pub use Rattle.mig_records_pages.specs.Batches.{BatchesCut, FitsBatch, IsBehind}
pub use Rattle.mig_records_pages.specs.PageData.{Frame, most_entries}
pub use Rattle.mig_records_pages.specs.Told.{FrameTold, all_told}
