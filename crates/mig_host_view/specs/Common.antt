-- Names that several definitions and contracts of this crate use.
pub use Rattle.std.specs.Option.{option_map}
pub use Rattle.mig_guest.specs.Formed.{gdt_ents}
pub use Rattle.mig_guest.specs.Frames.{FrameMap, FrameOf}
pub use Rattle.mig_guest.specs.Guests.{GuestOf}
pub use Rattle.mig_guest.specs.Hosts.{HostFrame, HostOf, IsValid, pfn_in}
pub use Rattle.mig_guest.specs.PartKeys.{context_key, p2m_key, shared_key}
pub use Rattle.mig_guest.specs.Parts.{PartMap}
pub use Rattle.mig_guest.specs.Tables.{EachEntry, blanked_table}
pub use Rattle.mig_guest.specs.declared.part_key.PartKey.{PartKey}
pub use Rattle.mig_headers.specs.Contexts.{cut_at, scan}
pub use Rattle.mig_headers.specs.declared.fault.ContextFault.{ContextFault}
pub use Rattle.mig_headers.specs.declared.kind.Kind.{Kind}
pub use Rattle.mig_headers.specs.declared.kind.Kind.TheVariants.{Hvm, Pv}
pub use Rattle.mig_headers.specs.declared.unsound.Unsound.TheVariants.{BadContext, GdtEnts, Missing, NoFrame, P2mFrame, Superpage, VcpuFrame}
pub use Rattle.mig_pagetypes.specs.PageTypes.{level_of}
pub use Rattle.mig_pvtables.specs.BadEntries.{NamesKnown, is_unknown}
pub use Rattle.mig_pvtables.specs.Blank.{IsOfBytes, blank, blank_of, each_value, table_changed}
pub use Rattle.mig_pvtables.specs.Faults.{find_entry, find_in_contexts, find_p2m, first_cause, first_some, fits_field, misses, type_at}
pub use Rattle.mig_pvtables.specs.P2mFrames.{count_in, listed, place_of}
pub use Rattle.mig_pvtables.specs.P2mPages.{p2m_page}
pub use Rattle.mig_pvtables.specs.Renaming.{GoesBack, renamed_table}
pub use Rattle.mig_pvtables.specs.Tables.{is_superpage}
pub use Rattle.mig_pvtables.specs.VcpuContexts.{Usage, blanked_context, field_at, field_of_frame, field_value, frame_of_field, is_used, is_used_somewhere}
pub use Rattle.mig_pvtables.specs.Whole.{IsWhole}
