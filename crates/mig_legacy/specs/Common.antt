-- Names that several definitions and contracts of this crate use.
pub use Rattle.std.specs.List.{All, flat_map, list_any, position_or_len}
pub use Rattle.std.specs.Option.{option_map, option_or}
pub use Rattle.mig_bytes.specs.Answers.{or_stop}
pub use Rattle.mig_bytes.specs.Faults.{RisesOnReadFault}
pub use Rattle.mig_bytes.specs.Fields.{be64, le32, le64}
pub use Rattle.mig_bytes.specs.Judged.{AgreesWithJudging}
pub use Rattle.mig_bytes.specs.Judged.Judged.{Faulty, Passes}
pub use Rattle.mig_bytes.specs.Sequences.{Spells, sequence_at}
pub use Rattle.mig_bytes_form.specs.Tests.{Test, computed, first_named}
pub use Rattle.mig_guest.specs.Frames.{FrameMap, IsFew}
pub use Rattle.mig_guest.specs.Guests.{GuestOf}
pub use Rattle.mig_guest.specs.Limits.{most_pairs}
pub use Rattle.mig_guest.specs.PartKeys.{context_key}
pub use Rattle.mig_guest.specs.declared.part_key.PartKey.{PartKey}
pub use Rattle.mig_headers.specs.Contexts.{ContextEntry, IsContext, cut_at, scan}
pub use Rattle.mig_headers.specs.Headers.{libxl_ident, marker}
pub use Rattle.mig_headers.specs.Pairs.{Pair, text_of_pair}
pub use Rattle.mig_headers.specs.RecordTypes.{most_body, vcpu_limit}
pub use Rattle.mig_headers.specs.Rows.{first_fault}
pub use Rattle.mig_headers.specs.declared.kind.Kind.TheVariants.{Hvm}
pub use Rattle.mig_headers.specs.declared.legacy_fault.LegacyCause.{LegacyCause}
pub use Rattle.mig_headers.specs.declared.legacy_fault.LegacyCause.TheVariants.{BadContext, BadPageType, BadSignature, BadToolstack, BadVcpuMax, BatchTooLarge, BodyTooLong, Compressed, Modern, Tmem, TooManyChunks, TooManyFrames, TooManyPairs, Tools32, Truncated, UnknownChunk, UnpairedIoreq, VerifyOrPv, WordHigh}
pub use Rattle.mig_headers.specs.declared.legacy_fault.LegacyPlace.{LegacyPlace}
pub use Rattle.mig_libxl_form.specs.Emulators.{EmulatorsOf, emulators_of, put_libxl_content, spelled_with, with_emulators}
pub use Rattle.mig_libxl_form.specs.Formed.{AreEmulators}
pub use Rattle.mig_pagetypes.specs.FrameWords.{word_has_data, word_of, word_pfn}
pub use Rattle.mig_pagetypes.specs.LegacyWords.{legacy_pfn, legacy_type, legacy_word, placeholder}
pub use Rattle.mig_pagetypes.specs.Limits.{most_frames}
pub use Rattle.mig_policy.specs.PairMaps.{PairMap, put_pairs, text_of_map}
pub use Rattle.mig_pvtables.specs.Whole.{IsStreamed, IsStreamedBare, IsWhole}
pub use Rattle.mig_records.specs.Words.{IsFirst, first_place, first_word, words}
pub use Rattle.mig_restore_form.specs.Mean.{GrewByRecord, IsBegun, frame_in, last_bytes, last_entry, mean, put_content_by, put_record, sent}
pub use Rattle.mig_restore_form.specs.Record.{FrameEntry, StreamRecord}
pub use Rattle.mig_guest.specs.Parts.{Part}
pub use Rattle.mig_bytes_form.specs.Form.{judged_as}
pub use Rattle.mig_restore.specs.Kept.{EntryStep, NotesOn}
