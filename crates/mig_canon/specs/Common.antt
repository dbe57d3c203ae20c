-- Names that several definitions and contracts of this crate use.
pub use Rattle.byteorder.specs.Endian.{little_bytes}
pub use Rattle.mig_bytes.specs.Bytes.{Puts}
pub use Rattle.mig_bytes.specs.Faults.{FaultHasCause}
pub use Rattle.mig_guest.specs.Formed.{HasNoEmulators, IsFormed, IsInside, is_emulator_code}
pub use Rattle.mig_guest.specs.Guests.{GuestOf}
pub use Rattle.mig_guest.specs.PartCodes.{code_number}
pub use Rattle.mig_guest.specs.Parts.{Part, PartMap, parts_after}
pub use Rattle.mig_guest.specs.declared.part_key.PartKey.{PartKey}
pub use Rattle.mig_headers.specs.Headers.{domain_header_of, image_header_of, libxl_header_of}
pub use Rattle.mig_headers.specs.RecordTypes.{most_body}
pub use Rattle.mig_headers.specs.declared.kind.Kind.{Kind}
pub use Rattle.mig_pvtables.specs.Blank.{blank}
pub use Rattle.mig_pvtables.specs.Whole.{IsWhole}
pub use Rattle.mig_records.specs.Layouts.{entry_text, front_text}
pub use Rattle.mig_records.specs.Records.{Record, spelled, text_of}
pub use Rattle.mig_records.specs.Shapes.{IsRow, canonical_bodies, of_vcpu, part_body, parts_at, shape_of}
pub use Rattle.mig_records_pages.specs.PageData.{Frame, body_of, most_entries}
pub use Rattle.mig_guest.specs.Frames.{FrameMap}
pub use Rattle.mig_records_pages.specs.Copied.{Copies, CopyHasCause, IsPageBuffer}
