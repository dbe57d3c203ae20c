-- Names that several definitions and contracts of this crate use.
pub use Rattle.std.specs.List.{All, fold, list_any, position, range_with_len, slice_split}
pub use Rattle.std.specs.Option.{option_copied, option_map}
pub use Rattle.mig_bytes.specs.Faults.{Rose}
pub use Rattle.mig_guest.specs.Footprints.{footprint, machine_named, table_in}
pub use Rattle.mig_guest.specs.Hosts.{HostFrame, HostFrames, HostOf, IsValid}
pub use Rattle.mig_guest.specs.Pfns.{Pfns, no_pfns, pfns_of_words, with_pfn}
pub use Rattle.mig_host.specs.HostView.{has_machine, put_frame, put_part_in}
pub use Rattle.mig_pagetypes.specs.Limits.{machine_limit, most_frames}
pub use Rattle.mig_pagetypes.specs.PageTypes.{level_of, type_of}
