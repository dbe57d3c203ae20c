-- Names that many proofs of this crate use.
pub use Rattle.std.proofs.Common.{Bool, Err, List, None, Ok, Option, Result, Some, [], ap, append-nil, append_assoc, arith, cond, drop, false, is_none, le_refl, length, length-append, length-drop, length-take-le, min, nat_eq, nat_le, nat_lt, not, refl, replicate, rules, slice_index, subst, suc, sym, take, take-append-drop, true, zero, ℕ, ◌*◌, ◌++◌, ◌+◌, ◌-◌, ◌<◌, ◌==◌, ◌^◌, ◌||◌, ◌∙◌, ◌∷◌, ◌≡◌, ◌≢◌, ◌≤◌}
pub use Rattle.std.proofs.lemmas.Bool.{eq-eqb, eqb-false, eqb-true, le-leb, leb-true, lt-leb, lt-ltb, ltb-false, ltb-true, ne_eqb, not-false, true≢false}
pub use Rattle.std.proofs.lemmas.Grind.{common_steps}
pub use Rattle.std.proofs.lemmas.List.{get_or_read, length-map, map-append}
pub use Rattle.std.specs.Io.KnownBytes.{Appends, Consumes}
pub use Rattle.std.specs.List.{AllByRecursion}
pub use Rattle.std.specs.Option.{option_map, option_or}
pub use Rattle.std.specs.Prelude.{IfSome, IsSome, count_by, is_some, ⊤, ◌&&◌}
pub use Rattle.mig_bytes.proofs.Fronts.{Front, TakesFronts, front_each, front_part, front_pass, front_placed, front_said, front_then}
pub use Rattle.mig_bytes.proofs.Joins.{any_stop, both_pass, no_bytes, part_passes, part_whole, passes_not, placed_passes, plain_part, said_part, same_faulty, same_passes, then_passes}
pub use Rattle.mig_bytes.proofs.Said.{said_passes}
pub use Rattle.mig_bytes.proofs.Sequences.{goes_on, over, starts}
pub use Rattle.mig_bytes.specs.Bytes.{AppendsPart, TakesFew, padding_len}
pub use Rattle.mig_bytes.specs.Fields.{be32, be64, le32, le64}
pub use Rattle.mig_bytes.specs.Judged.{AgreesWithJudging, Judged, part, placed, plain_at, said_at, tried, ◌>>=◌}
pub use Rattle.mig_bytes.specs.Judged.Judged.{Faulty, Passes}
pub use Rattle.mig_bytes.specs.Sequences.{onward, sequence_at}
pub use Rattle.mig_bytes.specs.declared.stop.Stop.{Stop}
pub use Rattle.mig_guest.specs.Guests.{GuestOf}
pub use Rattle.mig_guest.specs.declared.part_code.PartCode.{PartCode}
pub use Rattle.mig_headers.proofs.FirstFaults.{both_none, rows_fine}
pub use Rattle.mig_headers.proofs.HeaderLaws.{marker_of}
pub use Rattle.mig_headers.proofs.RecordNumbers.{numbers_are_inverse}
pub use Rattle.mig_headers.specs.Headers.{domain_rows, fault_of_domain, fault_of_image, fault_of_libxl, fault_of_marker, image_rows, kind_of_number, libxl_ident, libxl_rows, marker_rows, unless_faulty}
pub use Rattle.mig_headers.specs.RecordTypes.{is_optional, most_body, type_of_number}
pub use Rattle.mig_headers.specs.Rows.{first_fault}
pub use Rattle.mig_headers.specs.declared.fault.Cause.{Cause}
pub use Rattle.mig_headers.specs.declared.fault.Cause.TheVariants.{BadEmulator, BadLength, BadPvInfo, EmulatorIndex, GdtEnts, Missing, P2mFrame, P2mStart, ParamIndex, Pv32, TargetAbsent, TooManyFrames, TooManyPairs, TooManyRecords, Truncated, VcpuFrame, VcpuId}
pub use Rattle.mig_headers.specs.declared.fault.Place.{Place}
pub use Rattle.mig_headers.specs.declared.fault.Place.TheVariants.{DomainHeader, ImageHeader, LibxlHeader, Record}
pub use Rattle.mig_headers.specs.declared.kind.Kind.{Kind}
pub use Rattle.mig_headers.specs.declared.record_type.RecordType.{RecordType}
pub use Rattle.mig_headers.specs.declared.record_type.RecordType.TheVariants.{PageData, X86PvInfo, X86PvP2mFrames}
pub use Rattle.mig_libxl_form.proofs.Among.{among_first, among_more, emulator_more}
pub use Rattle.mig_libxl_form.specs.Among.{has_emulator, image_among, image_in, is_libxl_ended}
pub use Rattle.mig_libxl_form.specs.Behind.{AreBehind, MayFollow, kind_of_image}
pub use Rattle.mig_libxl_form.specs.Content.{LibxlContent, LibxlRecord}
pub use Rattle.mig_libxl_form.specs.Content.LibxlContent.{Context, Image, Pairs}
pub use Rattle.mig_libxl_form.specs.Judging.{allows_length, context_at, emulator_key, fault_of_libxl_head, libxl_head_at, skipped_at}
pub use Rattle.mig_libxl_form.specs.Stream.{StreamOf, header_at}
pub use Rattle.mig_libxl_form.specs.Stream.StreamOf.{Bare, Wrapped}
pub use Rattle.mig_libxl_form.specs.declared.head.RecordsBehind.{RecordsBehind}
pub use Rattle.mig_pagetypes.specs.FrameWords.{word_has_data, word_pfn}
pub use Rattle.mig_policy.specs.PairMaps.{pairs_in}
pub use Rattle.mig_records.specs.Faults.{count_rows, fault_of_count, fault_of_length, fault_of_long, fault_of_words, length_rows, long_rows, type_allows, word_rows}
pub use Rattle.mig_records.specs.Heads.{head_in}
pub use Rattle.mig_records.specs.PvBodies.{fault_of_p2m, fault_of_pv_info, greater}
pub use Rattle.mig_records.specs.Shapes.{fault_by_shape, fault_of_body, fault_of_content, fault_of_scan, parts_of_body, shape_of}
pub use Rattle.mig_records.specs.Words.{data_len_of, words}
pub use Rattle.mig_records.specs.declared.head.RecordHead.{RecordHead}
pub use Rattle.mig_relay.specs.Causes.{is_unasked}
pub use Rattle.mig_relay.specs.Following.{ComesBehind, ComesNext, count, image_begins, image_end, image_next, image_whole, in_hand, inner_end, kind, libxl_begins, libxl_context, libxl_end, libxl_next, libxl_whole, more, pages_begin, place_of_spot, version, whole, wrapper_header, image_opens, marker, wrapper_opens}
pub use Rattle.mig_relay.specs.Images.{open_image_at, open_next}
pub use Rattle.mig_relay.specs.Keeping.{HasNumber, HasRecords, IsBodied, IsOther, IsPages, Keeps, KeepsBody, KeepsFirst, KeepsGoing, KeepsHead, KeepsNext, KeepsOpen, KeepsOuter, KeepsRecords, KeepsWords, KeepsWrapper, Stands, fault_of_empty, top_with, with_one}
pub use Rattle.mig_relay.specs.Parts.{AtBody, AtFront, AtHead, AtKind, AtMarker, AtPadding, AtPages, AtVersion, AtWords, BeginsWithPart, Next, entry_of_word, judged_next, padded, pages_behind, record_with, with_body, with_record, words_behind}
pub use Rattle.mig_relay.specs.Relaying.{HasPassed, IsRelayed, RisesOnAnswer, Turned, WritesOnReadFault}
pub use Rattle.mig_relay.specs.Spots.{Alone, AtEnd, AtLibxlBody, AtLibxlHead, AtLibxlHeader, AtLibxlPadding, AtStart, Behind, InImage, Outer, Spot, begins_with_ident, carry, fault_of_first, held, image_record, is_ident, libxl_padded, most_of_part, spot}
pub use Rattle.mig_relay.specs.Standing.{IsNotRefused}
pub use Rattle.mig_relay.specs.Steps.{EndsInside, FrontsAreCut, IsStep, IsUnfinished, KeepsWordsInHand, MovedBy, PassedPiece, Refuses, RisesOnFault, StepMoved, Stops, WritesSome, answer_of, counted, is_judged_first}
pub use Rattle.mig_relay.specs.Streams.{IsOpenRefused, IsPassable, open_bare, open_body, open_content, open_inner, open_pairs_at}
pub use Rattle.mig_relay.specs.Waiting.{Fits, may_wait, most_waiting}
pub use Rattle.mig_relay.specs.declared.answer.RelayAnswer.{RelayAnswer}
pub use Rattle.mig_relay.specs.declared.answer.RelayAnswer.TheVariants.{Memory, ReadFault, Refused, WriteFault}
pub use Rattle.mig_relay.specs.declared.answer.Relayed.{Relayed}
pub use Rattle.mig_relay.specs.declared.answer.Step.{Step}
pub use Rattle.mig_relay.specs.declared.answer.Step.TheVariants.{Piece}
pub use Rattle.mig_relay.specs.declared.state.Coming.{Coming}
pub use Rattle.mig_relay.specs.declared.state.Relay.{Relay}
pub use Rattle.mig_relay_bodies.proofs.Types.{bodies_are_parts}
pub use Rattle.mig_relay_bodies.specs.Begun.{IsBegunBody, piece_len}
pub use Rattle.mig_relay_bodies.specs.Bodies.{coded_content, fault_of_libxl_body, fault_of_pair_body, fault_of_record_body, record_content, typed_content}
pub use Rattle.mig_restore_form.proofs.Meaning.{ended_more, one_more_record}
pub use Rattle.mig_restore_form.proofs.Parts.{asks, begins}
pub use Rattle.mig_restore_form.specs.Judging.{Before, Opening, before, body_at, code_of_type, coded_at, entries_at, entry_at, fault_at_end, fault_of_data, fault_of_fields, fault_of_head, fault_of_level, fault_of_list, fault_of_page, head_at, list_at, lists_of, most_records, next_at, opening_of, page_at, pages_at, record_at, type_in_word, typed_at, with_places, words_at}
pub use Rattle.mig_restore_form.specs.Mean.{type_in_guest, put_content, sent}
pub use Rattle.mig_restore_form.specs.Record.{Content, FrameEntry, StreamRecord, is_ended, is_verified, placed_content, types_of}
pub use Rattle.mig_restore_form.specs.Record.Content.{Checks, Frames, Lists, Nothing, Sets}
pub use Rattle.mig_restore_form.specs.Seen.{IsSeen}
pub use Rattle.mig_restore_form.specs.Stream.{ImageOf, image_at, image_of, kind_at, marker_at, opening_behind, placed_next, version_at}
pub use Rattle.mig_restore_form.specs.declared.head.RecordsSeen.{RecordsSeen}
pub use Rattle.mig_restore_form.proofs.Batches.{behind_list, front_list, good_list, list_stage, places_len}
pub use Rattle.mig_pagetypes.specs.PageTypes.{level_of}
