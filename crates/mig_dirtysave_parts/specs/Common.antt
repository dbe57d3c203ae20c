-- Names that several definitions and contracts of this crate use.
pub use Rattle.std.specs.Io.KnownBytes.{Appends}
pub use Rattle.std.specs.Option.{option_map}
pub use Rattle.mig_canon.specs.Canon.{headers, info_records, last_records, p2m_records, records_in_order, static_bodies}
pub use Rattle.mig_guest.specs.Formed.{IsFormed, is_emulator_code}
pub use Rattle.mig_guest.specs.Guests.{GuestOf}
pub use Rattle.mig_guest.specs.Parts.{PartMap}
pub use Rattle.mig_headers.specs.declared.kind.Kind.TheVariants.{Pv}
pub use Rattle.mig_host_view.specs.View.{top_of, view}
pub use Rattle.mig_records.specs.Records.{Record, spelled, text_of}
