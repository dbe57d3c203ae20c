-- Names that several definitions and contracts of this crate use.
pub use Rattle.std.specs.Option.{option_or}
pub use Rattle.mig_bytes.specs.Fields.{le16, le32}
pub use Rattle.mig_guest.specs.declared.part_code.PartCode.TheVariants.{HvmParam, VcpuBasic, VcpuExtended}
pub use Rattle.mig_headers.specs.Contexts.{ChainTo, scan}
pub use Rattle.mig_headers.specs.RecordTypes.{is_optional, most_body, record_row_of, type_of_number}
pub use Rattle.mig_headers.specs.declared.fault.Cause.{Cause}
pub use Rattle.mig_headers.specs.declared.fault.ContextFault.{ContextFault}
pub use Rattle.mig_headers.specs.declared.record_type.RecordType.TheVariants.{X86PvInfo, X86PvP2mFrames}
pub use Rattle.mig_policy.specs.PairFaults.{first_of, pairs_fault}
pub use Rattle.mig_records.specs.Layouts.{fault_of_entries, fault_of_entry, layout}
pub use Rattle.mig_records.specs.PvBodies.{fault_of_p2m, fault_of_pv_info}
pub use Rattle.mig_records.specs.Shapes.{fault_of_body, fault_of_content, fault_of_scan, is_chain, parts_of_body, shape_of}
pub use Rattle.mig_restore_form.specs.Judging.{Before, body_at, code_of_type, fault_of_fields, lists_of}
pub use Rattle.mig_libxl_form.specs.Judging.{fault_of_context}
