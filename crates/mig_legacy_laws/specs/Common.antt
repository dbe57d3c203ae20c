-- Names that several definitions and contracts of this crate use.
pub use Rattle.mig_legacy.specs.Chunks.{kind_numbered}
pub use Rattle.mig_legacy.specs.Legacy.{tail_records}
pub use Rattle.mig_legacy.specs.LegacyForm.{clock_of, tail_of}
pub use Rattle.mig_legacy.specs.Texts.{pairs_of_physmap}
