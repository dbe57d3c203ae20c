-- Names that several definitions and contracts of this crate use.
pub use Rattle.mig_bytes.specs.Answers.{or_stop}
pub use Rattle.mig_bytes.specs.Faults.{RisesOnReadFault}
pub use Rattle.mig_bytes.specs.Judged.{AgreesWithJudging}
pub use Rattle.mig_guest.specs.Frames.{FrameMap, FrameOf, framed}
pub use Rattle.mig_guest.specs.Guests.{GuestOf}
pub use Rattle.mig_headers.specs.declared.kind.Kind.{Kind}
pub use Rattle.mig_pagetypes.specs.PageTypes.{level_of, type_has_data}
pub use Rattle.mig_pvtables.specs.Blank.{each_value, zero_page}
pub use Rattle.mig_pvtables.specs.Faults.{fault_by, fault_of_guest}
pub use Rattle.mig_restore_form.specs.Judging.{page_at, type_in_word}
pub use Rattle.mig_restore_form.specs.Mean.{differs_of, empty_guest, mean, put_content, put_content_by, put_record, sent, type_in_guest}
pub use Rattle.mig_restore_form.specs.Record.{Content, FrameEntry, StreamRecord}
pub use Rattle.mig_restore_form.specs.Stream.{ImageOf, image_at, image_behind}
