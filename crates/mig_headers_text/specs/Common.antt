-- Names that several definitions and contracts of this crate use.
pub use Rattle.mig_bytes.specs.Bytes.{Puts}
pub use Rattle.mig_bytes.specs.Faults.{FaultHasCause}
pub use Rattle.mig_headers.specs.CauseNumbers.{number_of_cause, number_of_image_cause, number_of_legacy_cause}
