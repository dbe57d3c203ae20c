-- Names that several definitions and contracts of this crate use.
pub use Rattle.std.specs.List.{AllByRecursion, flat_map, list_any, position_or_len, range_with_len}
pub use Rattle.std.specs.Option.{option_or}
pub use Rattle.byteorder.specs.Endian.{little_bytes, little_number}
pub use Rattle.mig_bytes.specs.Bytes.{AreBytes, Puts, padding_len}
pub use Rattle.mig_bytes.specs.Faults.{FaultHasCause, RisesOnReadFault}
pub use Rattle.mig_bytes.specs.Fields.{le32, le64}
pub use Rattle.mig_guest.specs.Formed.{AreParts, IsFormed, gdt_ents, is_policy}
pub use Rattle.mig_guest.specs.Guests.{GuestOf}
pub use Rattle.mig_guest.specs.Limits.{most_gdt_entries}
pub use Rattle.mig_guest.specs.PartCodes.{code_number, row_of, small_number}
pub use Rattle.mig_guest.specs.PartKeys.{p2m_key}
pub use Rattle.mig_guest.specs.Parts.{Part, PartMap, parts_of, put_part, put_parts, replace_code}
pub use Rattle.mig_guest.specs.declared.part_code.PartCode.{PartCode}
pub use Rattle.mig_guest.specs.declared.part_code.PartCode.TheVariants.{CpuidLeaf, EmulatorContext, EmulatorPairs, HvmContext, HvmParam, Msr, P2mFrames, SharedInfo, Tsc, VcpuBasic, VcpuExtended, VcpuMsrs, VcpuXsave}
pub use Rattle.mig_guest.specs.declared.part_key.PartKey.{PartKey}
pub use Rattle.mig_headers.specs.RecordTypes.{most_body, record_row_of, type_of_number, vcpu_limit}
pub use Rattle.mig_headers.specs.Rows.{first_fault}
pub use Rattle.mig_headers.specs.declared.fault.Cause.{Cause}
pub use Rattle.mig_headers.specs.declared.fault.Cause.TheVariants.{BadContext, BadLength, BadPageType, BadPvInfo, BodyTooLong, GdtEnts, NoPages, P2mStart, ParamIndex, PfnOutside, Pv32, Truncated, VcpuId}
pub use Rattle.mig_headers.specs.declared.kind.Kind.{Kind}
pub use Rattle.mig_headers.specs.declared.kind.Kind.TheVariants.{Hvm, Pv}
pub use Rattle.mig_headers.specs.declared.record_type.RecordType.{RecordType}
pub use Rattle.mig_pagetypes.specs.FrameWords.{word_has_data, word_pfn, word_type}
