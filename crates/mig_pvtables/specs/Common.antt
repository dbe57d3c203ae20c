-- Names that several definitions and contracts of this crate use.
pub use Rattle.std.specs.List.{list_any, range_with_len}
pub use Rattle.std.specs.Option.{option_copied, option_map, option_or}
pub use Rattle.std.specs.Ordering.{eq_by_cmp, is_lt, nat_cmp}
pub use Rattle.std.specs.declared.cmp.Ordering.{Ordering}
pub use Rattle.byteorder.specs.Endian.{little_bytes}
pub use Rattle.mig_bytes.specs.Bytes.{AreBytes}
pub use Rattle.mig_bytes.specs.Fields.{with_field}
pub use Rattle.mig_guest.specs.Formed.{HasNoEmulators, IsFormed, gdt_ents}
pub use Rattle.mig_guest.specs.Frames.{FrameMap, FrameOf, IsFew, NextEntry}
pub use Rattle.mig_guest.specs.Guests.{GuestOf}
pub use Rattle.mig_guest.specs.Longs.{each_long, long_at, longs}
pub use Rattle.mig_guest.specs.Order.{part_cmp}
pub use Rattle.mig_guest.specs.PartCodes.{code_number}
pub use Rattle.mig_guest.specs.PartKeys.{context_key, p2m_key, shared_key, vcpu_key}
pub use Rattle.mig_guest.specs.Parts.{NextPart, Part, PartMap}
pub use Rattle.mig_guest.specs.Tables.{EachEntry, IsWithin, blanked_table, entry, is_large, is_present, named_frame}
pub use Rattle.mig_guest.specs.declared.part_key.PartKey.{PartKey}
pub use Rattle.mig_guest.specs.declared.table.Entry.{Entry}
pub use Rattle.mig_guest.specs.declared.table.Entry.TheVariants.{Frame}
pub use Rattle.mig_headers.specs.declared.fault.Cause.{Cause}
pub use Rattle.mig_headers.specs.declared.fault.Cause.TheVariants.{Missing, P2mFrame, TargetAbsent, TooManyFrames, VcpuFrame}
pub use Rattle.mig_headers.specs.declared.kind.Kind.{Kind}
pub use Rattle.mig_headers.specs.declared.kind.Kind.TheVariants.{Hvm, Pv}
pub use Rattle.mig_pagetypes.specs.Limits.{most_frames, pfn_limit}
pub use Rattle.mig_pagetypes.specs.PageTypes.{level_of}
pub use Rattle.mig_pagetypes.specs.declared.page_type.PageType.{PageType}
pub use Rattle.mig_pagetypes.specs.declared.page_type.PageType.TheVariants.{L1Tab, L2Tab, L3Tab, L4Pinned, L4Tab, Notab}
