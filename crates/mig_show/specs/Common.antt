-- Names that several definitions and contracts of this crate use.
pub use Rattle.std.specs.Io.KnownBytes.{Consumes}
pub use Rattle.mig_bytes.specs.Faults.{Rose}
pub use Rattle.mig_headers.specs.RecordTypes.{is_optional, type_number, type_of_number}
pub use Rattle.mig_headers.specs.declared.fault.Cause.{Cause}
pub use Rattle.mig_headers.specs.declared.fault.Place.{Place}
pub use Rattle.mig_headers.specs.declared.kind.Kind.TheVariants.{Hvm, Pv}
pub use Rattle.mig_headers.specs.declared.record_type.RecordType.TheVariants.{Checkpoint, CheckpointDirtyPfnList, End, HvmContext, HvmParams, PageData, SharedInfo, StaticDataEnd, Toolstack, Verify, X86CpuidPolicy, X86MsrPolicy, X86PvInfo, X86PvP2mFrames, X86PvVcpuBasic, X86PvVcpuExtended, X86PvVcpuMsrs, X86PvVcpuXsave, X86TscInfo}
pub use Rattle.mig_headers_text.specs.Texts.{text_of_cause, text_of_place}
pub use Rattle.mig_pagetypes.specs.FrameWords.{word_has_data}
pub use Rattle.serde_json.specs.Data.{Data, Members, array, boolean, member, no_members, null, number, object, put, string, unsigned}
pub use Rattle.serde_json.specs.View.{items_of, members_view, view}
pub use Rattle.serde_json.specs.Written.{comma_if, compact_text, has_float}
pub use Rattle.mig_headers.specs.declared.kind.Kind.{Kind}
