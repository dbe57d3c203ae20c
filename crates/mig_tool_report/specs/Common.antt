-- Names that several definitions and contracts of this crate use.
pub use Rattle.std.specs.Io.KnownBytes.{Appends}
pub use Rattle.mig_bytes.specs.Bytes.{AppendsPart, Puts}
pub use Rattle.mig_bytes.specs.Faults.{FaultHasCause, Rose}
pub use Rattle.mig_headers.specs.RecordTypes.{vcpu_limit}
