-- Names that several definitions and contracts of this crate use.
pub use Rattle.std.specs.Option.{option_map}
pub use Rattle.mig_bytes.specs.Faults.{FaultHasCause, Rose}
pub use Rattle.mig_guest.specs.Changes.{IsBelow}
pub use Rattle.mig_guest.specs.Footprints.{Footprint, footprint, footprint_of, names_in, table_in}
pub use Rattle.mig_guest.specs.Frames.{FrameMap, FrameOf, is_type_of}
pub use Rattle.mig_guest.specs.History.{History, LogTook, no_history, nothing_asked, one_more}
pub use Rattle.mig_guest.specs.Hosts.{HostFrame, HostFrames, most_saved_width, pfn_in}
pub use Rattle.mig_guest.specs.MachineCalls.{LogTaken}
pub use Rattle.mig_guest.specs.MachineStates.{IsSameShape, IsValidState, MachineState, Ran, Stays}
pub use Rattle.mig_guest.specs.Pfns.{Pfns, all_below, joined, members, no_pfns, pfns_of_words, size, with_pfn}
pub use Rattle.mig_guest.specs.Rounds.{AreCalls, GoesOn, OfEachLog, Rounds, Tight, all_read, least_log, most_rounds, rounds_read, to_read}
pub use Rattle.mig_guest.specs.Tables.{EachEntry, IsWithin, blanked_table, entry}
pub use Rattle.mig_guest.specs.declared.table.Entry.{Entry}
pub use Rattle.mig_guest.specs.declared.table.Entry.TheVariants.{Blank, Frame, NotPresent, Superpage}
pub use Rattle.mig_headers.specs.declared.kind.Kind.{Kind}
pub use Rattle.mig_headers.specs.declared.unsound.Unsound.{Unsound}
pub use Rattle.mig_pagetypes.specs.PageTypes.{level_of, type_has_data}
pub use Rattle.mig_pagetypes.specs.declared.page_type.PageType.{PageType}
pub use Rattle.mig_pvtables.specs.Renaming.{renamed_by}
pub use Rattle.mig_pvtables.specs.Tables.{first_superpage, with_frame}
pub use Rattle.mig_records_pages.specs.Batches.{AreSized, BatchesCut, BatchesWritten, FallsBehind, IsSent, SendsOn}
pub use Rattle.mig_records_pages.specs.PageData.{most_entries}
pub use Rattle.mig_records_pages.specs.Told.{FrameTold, all_told}
