-- Names that several definitions and contracts of this crate use.
pub use Rattle.std.specs.Io.KnownBytes.{Appends, Consumes, WriteAppends}
pub use Rattle.mig_bytes.specs.Bytes.{Puts, padding_len}
pub use Rattle.mig_bytes.specs.Faults.{FaultHasCause, Rose}
pub use Rattle.mig_bytes.specs.Fields.{be32, be64, le32}
pub use Rattle.mig_bytes.specs.Judged.Judged.{Faulty, Passes}
pub use Rattle.mig_bytes.specs.Sequences.{onward}
pub use Rattle.mig_guest.specs.PartCodes.{code_number}
pub use Rattle.mig_guest.specs.declared.part_code.PartCode.TheVariants.{EmulatorPairs}
pub use Rattle.mig_headers.specs.Headers.{fault_of_marker, kind_of_number, libxl_ident}
pub use Rattle.mig_headers.specs.RecordTypes.{most_body, type_number}
pub use Rattle.mig_headers.specs.declared.fault.Cause.{Cause}
pub use Rattle.mig_headers.specs.declared.fault.Cause.TheVariants.{Missing, P2mFrame, TargetAbsent, TooManyFrames, TooManyPairs, Truncated, VcpuFrame}
pub use Rattle.mig_headers.specs.declared.fault.Place.{Place}
pub use Rattle.mig_headers.specs.declared.fault.Place.TheVariants.{DomainHeader, Record}
pub use Rattle.mig_headers.specs.declared.record_type.RecordType.TheVariants.{End, PageData, X86PvP2mFrames}
pub use Rattle.mig_libxl_form.specs.Among.{image_among, image_in, is_libxl_ended}
pub use Rattle.mig_libxl_form.specs.Content.{LibxlContent, LibxlRecord}
pub use Rattle.mig_libxl_form.specs.Content.LibxlContent.{Image, Pairs}
pub use Rattle.mig_libxl_form.specs.LibxlTypes.{emulator_context_type, emulator_pairs_type, is_emulator_type, libxc_context_type, libxl_end_type}
pub use Rattle.mig_libxl_form.specs.Stream.{IsStreamRefused, StreamOf, header_at, image_of_stream, stream_at}
pub use Rattle.mig_libxl_form.specs.Stream.StreamOf.{Bare, Wrapped}
pub use Rattle.mig_pagetypes.specs.FrameWords.{word_has_data, word_pfn}
pub use Rattle.mig_records.specs.Heads.{head_in}
pub use Rattle.mig_records.specs.declared.head.RecordHead.{RecordHead}
pub use Rattle.mig_relay_bodies.specs.Begun.{IsBegunBody, piece_len}
pub use Rattle.mig_relay_bodies.specs.Bodies.{fault_of_libxl_body, fault_of_pair_body, fault_of_record_body}
pub use Rattle.mig_restore_form.specs.Judging.{Opening, before, body_at, entry_at, fault_of_fields, fault_of_list, most_records, opening_of, pages_at, record_at, type_in_word, with_places, words_at}
pub use Rattle.mig_restore_form.specs.Record.{Content, FrameEntry, StreamRecord, is_ended, is_verified, placed_content, types_of}
pub use Rattle.mig_restore_form.specs.Stream.{ImageOf, image_at, image_of, kind_at, opening_at, opening_behind}
pub use Rattle.mig_bytes.specs.Judged.{Judged, part, placed, said_at, tried, ◌>>=◌}
pub use Rattle.mig_bytes.specs.declared.stop.Stop.{Stop}
