-- Names that several definitions and contracts of this crate use.
pub use Rattle.std.specs.Option.{option_copied, option_map}
pub use Rattle.mig_guest.specs.Frames.{FrameMap, FrameOf, NextEntry, is_type_of}
pub use Rattle.mig_guest.specs.Guests.{GuestOf}
pub use Rattle.mig_guest.specs.Hosts.{HostFrame, HostFrames, HostOf, IsHostFrame, IsHostPart, IsValid, host_code, most_width, pfn_in}
pub use Rattle.mig_guest.specs.Parts.{FitsPolicy, NextBehind, NextKey, PartMap}
pub use Rattle.mig_guest.specs.declared.part_key.PartKey.{PartKey}
pub use Rattle.mig_headers.specs.declared.kind.Kind.{Kind}
pub use Rattle.mig_headers.specs.declared.kind.Kind.TheVariants.{Hvm, Pv}
pub use Rattle.mig_host_view.specs.Sound.{IsSound, unsoundness}
pub use Rattle.mig_host_view.specs.View.{guest_in, hvm_view, top_of, view, without_machine}
pub use Rattle.mig_pagetypes.specs.Limits.{machine_limit, most_frames, pfn_limit, top_limit}
pub use Rattle.mig_pagetypes.specs.PageTypes.{type_has_data}
pub use Rattle.mig_pvtables.specs.Blank.{IsOfBytes, blank, each_value}
pub use Rattle.mig_pvtables.specs.Whole.{IsStreamed, IsWhole}
