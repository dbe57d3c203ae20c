-- Names that several definitions and contracts of this crate use.
pub use Rattle.mig_bytes.specs.Answers.{or_stop}
pub use Rattle.mig_bytes.specs.Bytes.{AreBytes}
pub use Rattle.mig_bytes.specs.Faults.{RisesOnReadFault}
pub use Rattle.mig_bytes.specs.Judged.{AgreesWithJudging, each, plain_at, said_at}
pub use Rattle.mig_bytes.specs.declared.stop.Stop.TheVariants.{Memory}
pub use Rattle.mig_guest.specs.Frames.{FrameMap}
pub use Rattle.mig_guest.specs.Guests.{GuestOf}
pub use Rattle.mig_headers.specs.RecordTypes.{most_body, record_row_of, type_of_number}
pub use Rattle.mig_headers.specs.declared.fault.Cause.{Cause}
pub use Rattle.mig_headers.specs.declared.fault.Cause.TheVariants.{Truncated}
pub use Rattle.mig_headers.specs.declared.record_type.RecordType.{RecordType}
pub use Rattle.mig_headers.specs.declared.kind.Kind.{Kind}
pub use Rattle.mig_pagetypes.specs.declared.page_type.PageType.{PageType}
pub use Rattle.mig_records.specs.Faults.{fault_of_length}
pub use Rattle.mig_restore_form.specs.Judging.{Before, Opening, body_at, entry_at, fault_of_level, head_at, info_at, list_at, most_records, next_at, opening_of, p2m_at, pages_at, record_at, sets_at, type_in_word, typed_at, with_places, words_at}
pub use Rattle.mig_restore_form.specs.Mean.{GrewByRecord, IsBegun, agrees, checked_in, differing, differs_of, mean, put_content_by, put_entries, put_entries_by, put_entry, sent}
pub use Rattle.mig_restore_form.specs.Record.{Content, FrameEntry, StreamRecord, is_verified, placed_content, types_of}
pub use Rattle.mig_restore_form.specs.Stream.{ImageOf, image_at, image_behind, kind_at, marker_at, opening_at, opening_behind, records_at, version_at}
pub use Rattle.mig_pagetypes.specs.FrameWords.{word_pfn}
pub use Rattle.mig_pvtables.specs.Faults.{fault_of_guest}
pub use Rattle.mig_restore_form.specs.Spelled.{IsGoodWord}
