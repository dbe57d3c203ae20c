-- Names that several definitions and contracts of this crate use.
pub use Rattle.byteorder.specs.Endian.{little_bytes}
pub use Rattle.mig_guest.specs.Hosts.{HostFrame, HostFrames, HostOf}
pub use Rattle.mig_guest.specs.Longs.{longs}
pub use Rattle.mig_headers.specs.declared.kind.Kind.TheVariants.{Pv}
pub use Rattle.mig_machine_script.specs.ScriptLines.{LineOf, line_said}
