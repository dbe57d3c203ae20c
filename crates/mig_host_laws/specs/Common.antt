-- Names that several definitions and contracts of this crate use.
pub use Rattle.std.specs.List.{range_with_len}
pub use Rattle.std.specs.Option.{option_map}
pub use Rattle.mig_bytes.specs.Bytes.{AreBytes}
pub use Rattle.mig_guest.specs.Formed.{IsFormed, gdt_ents}
pub use Rattle.mig_guest.specs.Guests.{GuestOf}
pub use Rattle.mig_guest.specs.Hosts.{HostFrame, HostOf, IsValid, pfn_in}
pub use Rattle.mig_guest.specs.Limits.{most_gdt_entries}
pub use Rattle.mig_guest.specs.Longs.{long_at, longs}
pub use Rattle.mig_guest.specs.PartKeys.{context_key, p2m_key, shared_key, vcpu_key}
pub use Rattle.mig_guest.specs.Parts.{PartMap}
pub use Rattle.mig_guest.specs.Tables.{entry, entry_of}
pub use Rattle.mig_guest.specs.declared.part_key.PartKey.{PartKey}
pub use Rattle.mig_guest.specs.declared.table.Entry.{Entry}
pub use Rattle.mig_guest.specs.declared.table.Entry.TheVariants.{Frame, NotPresent, Superpage}
pub use Rattle.mig_headers.specs.declared.fault.Cause.{Cause}
pub use Rattle.mig_headers.specs.declared.kind.Kind.TheVariants.{Hvm, Pv}
pub use Rattle.mig_headers.specs.declared.unsound.Unsound.{Unsound}
pub use Rattle.mig_headers_text.specs.UnsoundTexts.{number_of_unsound}
pub use Rattle.mig_host_view.specs.Sound.{IsSound, absent, find_context_fault, find_gdt, needed_keys, unsoundness}
pub use Rattle.mig_host_view.specs.View.{guest_in, view}
pub use Rattle.mig_pagetypes.specs.declared.page_type.PageType.{PageType}
pub use Rattle.mig_pagetypes.specs.declared.page_type.PageType.TheVariants.{L4Tab, Notab}
pub use Rattle.mig_pvtables.specs.Faults.{fault_of_guest, find_in_contexts, find_misplaced, first_cause, first_some, fits_field, is_notab, is_root, misses, slots, type_at}
pub use Rattle.mig_pvtables.specs.P2mFrames.{listed}
pub use Rattle.mig_pvtables.specs.VcpuContexts.{Usage, field_at, field_of_frame, field_place, field_value, frame_of_field, is_used, is_used_somewhere, value_blanked}
