-- Names that several definitions and contracts of this crate use.
pub use Rattle.std.specs.Io.KnownBytes.{Appends}
pub use Rattle.std.specs.List.{AllByRecursion}
pub use Rattle.std.specs.Option.{option_copied, option_map}
pub use Rattle.mig_bytes.specs.Bytes.{AppendsPart, Puts}
pub use Rattle.mig_bytes.specs.Faults.{FaultHasCause}
pub use Rattle.mig_bytes.specs.declared.failure.WriteFailed.{WriteFailed}
pub use Rattle.mig_guest.specs.Frames.{FrameOf, entries_from}
pub use Rattle.mig_pagetypes.specs.Limits.{pfn_limit}
pub use Rattle.mig_records.specs.Records.{Record, spelled, text_of}
