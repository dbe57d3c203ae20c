-- Names that several definitions and contracts of this crate use.
pub use Rattle.std.specs.List.{All, Contains, list_any}
pub use Rattle.std.specs.Option.{option_map, option_or}
pub use Rattle.mig_bytes.specs.Bytes.{AreBytes, padding_len}
pub use Rattle.mig_bytes.specs.Fields.{be32, le32}
pub use Rattle.mig_bytes.specs.Judged.Judged.{Faulty, Passes}
pub use Rattle.mig_bytes.specs.Sequences.{Spells, sequence_at}
pub use Rattle.mig_guest.specs.Formed.{HasNoEmulators, IsFormed, is_policy}
pub use Rattle.mig_guest.specs.Frames.{FrameMap, FrameOf, IsFew, framed}
pub use Rattle.mig_guest.specs.Guests.{GuestOf}
pub use Rattle.mig_guest.specs.PartCodes.{code_number, code_of_number}
pub use Rattle.mig_guest.specs.PartKeys.{context_key, p2m_key}
pub use Rattle.mig_guest.specs.Parts.{Part}
pub use Rattle.mig_guest.specs.declared.part_code.PartCode.{PartCode}
pub use Rattle.mig_guest.specs.declared.part_key.PartKey.{PartKey}
pub use Rattle.mig_headers.specs.Headers.{IsDomainHeader, IsImageHeader, behind_marker, fault_of_domain, fault_of_image, fault_of_marker, kind_of_number, unless_faulty}
pub use Rattle.mig_headers.specs.RecordTypes.{is_optional, most_body, record_row_of, type_number, type_of_number}
pub use Rattle.mig_headers.specs.declared.fault.Cause.{Cause}
pub use Rattle.mig_headers.specs.declared.fault.Cause.TheVariants.{BadLength, TooManyRecords, Truncated}
pub use Rattle.mig_headers.specs.declared.fault.Place.{Place}
pub use Rattle.mig_headers.specs.declared.kind.Kind.{Kind}
pub use Rattle.mig_headers.specs.declared.kind.Kind.TheVariants.{Hvm, Pv}
pub use Rattle.mig_headers.specs.declared.record_type.RecordType.{RecordType}
pub use Rattle.mig_headers.specs.declared.record_type.RecordType.TheVariants.{End, PageData, StaticDataEnd, Verify, X86PvInfo, X86PvP2mFrames}
pub use Rattle.mig_order.specs.Order.{IsInOrder, fault_of_type, some_earlier}
pub use Rattle.mig_pagetypes.specs.FrameWords.{word_has_data, word_pfn, word_type}
pub use Rattle.mig_pagetypes.specs.PageTypes.{level_of, number_of, type_has_data, type_of, type_or_none}
pub use Rattle.mig_pagetypes.specs.declared.page_type.PageType.{PageType}
pub use Rattle.mig_pvtables.specs.Blank.{IsOfBytes, blank}
pub use Rattle.mig_pvtables.specs.P2mFrames.{listed, listed_in}
pub use Rattle.mig_records.specs.Faults.{fault_of_count, fault_of_length, fault_of_long, fault_of_words}
pub use Rattle.mig_records.specs.PvBodies.{IsP2m, IsPvInfo, fault_of_p2m, fault_of_pv_info, set_p2m}
pub use Rattle.mig_records.specs.Records.{IsRecord}
pub use Rattle.mig_records.specs.Shapes.{IsBody, fault_of_body, parts_of_body, set_parts}
pub use Rattle.mig_records.specs.Words.{data_len_of, has_reserved_type, names_outside, words}
