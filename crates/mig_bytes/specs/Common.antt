-- Names that several definitions and contracts of this crate use.
pub use Rattle.std.specs.Io.{ReadsAtMost, WritesAtMost}
pub use Rattle.std.specs.Io.KnownBytes.{Appends, Consumes, IsAtEnd, Keeps, ReadConsumes, WriteAppends}
pub use Rattle.byteorder.specs.Endian.{big_bytes, big_number, little_bytes, little_number}
