-- Names that several definitions and contracts of this crate use.
pub use Rattle.std.specs.Option.{option_map}
pub use Rattle.mig_bytes.specs.Answers.{or_stop}
pub use Rattle.mig_bytes.specs.Faults.{FaultHasCause, RisesOnReadFault}
pub use Rattle.mig_bytes.specs.Judged.{AgreesWithJudging}
pub use Rattle.mig_headers.specs.RecordTypes.{most_body}
pub use Rattle.mig_headers.specs.declared.kind.Kind.{Kind}
pub use Rattle.mig_headers.specs.declared.kind.Kind.TheVariants.{Pv}
pub use Rattle.mig_libxl_form.specs.Among.{has_emulator, image_among, image_in}
pub use Rattle.mig_libxl_form.specs.Content.{LibxlContent, LibxlRecord}
pub use Rattle.mig_libxl_form.specs.Formed.{AreEmulators}
pub use Rattle.mig_libxl_form.specs.Stream.{StreamOf, bare_at, guest_of, header_at, image_of_stream, libxl_records_at, stream_at, wrapped_at}
pub use Rattle.mig_libxl_form.specs.Stream.StreamOf.{Bare, Wrapped}
pub use Rattle.mig_pvtables.specs.Whole.{IsStreamed, IsStreamedBare, IsWhole}
pub use Rattle.mig_restore_form.specs.Stream.{ImageOf, image_at, image_behind}
