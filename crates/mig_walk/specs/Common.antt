-- Names that several definitions and contracts of this crate use.
pub use Rattle.mig_guest.specs.PartKeys.{vcpu_key}
pub use Rattle.mig_host_laws.specs.Fields.{Root, said_by}
pub use Rattle.mig_host_laws.specs.Standing.{Standing, in_host, in_stream, said_in}
pub use Rattle.mig_host_view.specs.Sound.{IsSound}
pub use Rattle.mig_pagetypes.specs.PageTypes.{level_of}
pub use Rattle.mig_pvtables.specs.Whole.{IsWhole}
