-- Names that many proofs of this crate use.
pub use Rattle.mig_bytes.proofs.Joins.{any_stop, both_pass, judged_so, mapped, part_passes, part_whole, passes_not, placed_passes, same_passes, stopped, then_passes, then_reads, weakened}
pub use Rattle.mig_bytes.proofs.Placed.{placed_fine, placed_stops, placed_then, placed_ends}
pub use Rattle.mig_bytes.proofs.Said.{said_goes, said_passes, said_read, said_refused, plain_read}
pub use Rattle.mig_bytes.proofs.Sequences.{accepted_spelled, spelled_accepted, Found}
pub use Rattle.mig_bytes.specs.Bytes.{AreBytes}
unfoldable pub use Rattle.mig_bytes.specs.Fields.{le32}
unfoldable pub use Rattle.mig_bytes.specs.Judged.{each}
pub use Rattle.mig_bytes.specs.Judged.{Judged, ◌>>=◌, part, Matches, AgreesWithJudging, said_at, placed, stop_at, tried}
pub use Rattle.mig_bytes.specs.Judged.Judged.{Passes, Faulty}
pub use Rattle.mig_bytes.specs.declared.stop.Stop.{Stop}
unfoldable pub use Rattle.mig_bytes_form.specs.Form.{judged_as, each_form, ◌>>>◌}
pub use Rattle.mig_bytes_form.specs.Form.{FormOf, said_form, SpelledAs, BeginsAs}
pub use Rattle.mig_bytes_form.specs.Form.FormOf.{Gives as Given}
pub use Rattle.mig_bytes_form.specs.Form.SpelledAs.{nothing, one_part}
pub use Rattle.mig_bytes_form.specs.Tests.{Test, computed, first_named, NoneHolds}
pub use Rattle.mig_bytes_form.specs.Tests.Test.{Less}
pub use Rattle.mig_guest.proofs.PartOrder.{part_total, part_exact}
pub use Rattle.mig_guest.specs.Formed.{IsPart, IsCut, is_policy, is_emulator_code, width_of}
pub use Rattle.mig_guest.specs.Guests.{GuestOf}
pub use Rattle.mig_guest.specs.Order.{part_cmp}
pub use Rattle.mig_guest.specs.PartKeys.{context_key, p2m_key}
pub use Rattle.mig_guest.specs.declared.part_key.PartKey.{PartKey}
pub use Rattle.mig_guest.specs.Limits.{most_pairs}
pub use Rattle.mig_headers.proofs.ContextTexts.{byte_in, contexts_are_spelled, in32}
pub use Rattle.mig_headers.proofs.FirstFaults.{no_fault, rows_fine, both_none, neither_some}
pub use Rattle.mig_headers.specs.Contexts.{scan, cut_at}
pub use Rattle.mig_headers.specs.Pairs.{Pair}
pub use Rattle.mig_headers.specs.declared.fault.ContextFault.{ContextFault}
pub use Rattle.mig_guest.specs.Frames.{FrameMap, IsFew}
pub use Rattle.mig_headers.specs.declared.kind.Kind.{Kind}
pub use Rattle.mig_headers.specs.declared.kind.Kind.TheVariants.{Hvm, Pv}
pub use Rattle.mig_headers.specs.declared.legacy_fault.LegacyCause.{LegacyCause}
pub use Rattle.mig_headers.specs.declared.legacy_fault.LegacyCause.TheVariants.{Truncated, BadContext, TooManyPairs, BadToolstack}
pub use Rattle.mig_headers.specs.declared.legacy_fault.LegacyPlace.{LegacyPlace}
pub use Rattle.mig_headers.specs.declared.legacy_fault.LegacyPlace.TheVariants.{Start, Tail, Device, Chunk}
pub use Rattle.mig_headers.specs.RecordTypes.{most_policy_entries, vcpu_limit, most_body}
pub use Rattle.mig_legacy.specs.Batches.{BatchesAreJudged, IsFirstHigh, IsTyped, batch_rows, fault_of_batch, is_high, is_reserved, page_data_word, page_data_words, page_data_words_of}
unfoldable pub use Rattle.mig_legacy.specs.Chunks.{kind_of}
pub use Rattle.mig_legacy.specs.Chunks.{IsNumberOf, number_causes, kind_numbered, unless_caused}
unfoldable pub use Rattle.mig_legacy.specs.Judged.{toolstack, toolstack_fault}
unfoldable pub use Rattle.mig_legacy.specs.LegacyForm.{tail_form, chunk_form}
pub use Rattle.mig_legacy.specs.LegacyForm.{most_chunks, frames_sent, pairs_of_toolstack, context_fault, signature, start_causes, place_causes, max_causes, length_causes, toolstack_causes, signature_causes, plain_form, length_form, counted_form, start_form, type_form, words_form, page_of_word, entry_form, batch_form, vcpus_form, clock_of, clock_form, toolstack_form, value_form, content_form, cut_context, tail_of, device_form}
unfoldable pub use Rattle.mig_legacy.specs.Legacy.{mean_legacy}
pub use Rattle.mig_legacy.specs.Legacy.{LegacyContent, LegacyChunk, LegacyTail, LegacyStream, param_key, records_in, tail_records, image_records, guest_without, tsc_key, device_records, store_records, is_end, is_legacy_ended, store_key, device_key, pair_records, device_model, is_value_of, has_value}
pub use Rattle.mig_legacy.specs.Legacy.LegacyContent.{Nothing, Frames, Value, Clock, Pairs}
pub use Rattle.mig_legacy.specs.Meaning.{batch_entries, entries_of_chunks, parts_in, parts_of_chunks, parts_of_tail, parts_told, tail_value, value_in, last_value, toolstack_pairs, pairs_of_chunks, store_of}
pub use Rattle.mig_restore.specs.Kept.{EntryStep, kept_guest, NotesOn}
pub use Rattle.mig_legacy.specs.Seen.{IsLegacyBegun, IsLegacySeen, IsLegacyTaken, TakesLegacy, cut_short, put_device, put_in_emulators, put_in_guest, put_tail, NotesChunks, put_chunk_frames}
pub use Rattle.mig_legacy.specs.Spelled.{IsCounted, IsLegacyWord, IsLegacyBatch, FollowsLegacy, IsLegacy, AcceptedLegacy, IsStart, IsTail, IsDevice, IsLegacyComplete, HasLegacyContent, StoreFits}
unfoldable pub use Rattle.mig_legacy.specs.Stream.{device_at, legacy_at}
pub use Rattle.mig_legacy.specs.Stream.{chunks_at, placed_chunk, IsLegacyRefused}
pub use Rattle.mig_legacy.specs.Texts.{DigitsSpellNumbers, digit_value, number_of_digits, pairs_of_physmap, text_of_physmaps}
pub use Rattle.mig_legacy.specs.Toolstack.{Physmap, IsToolstack}
pub use Rattle.mig_legacy.specs.declared.chunk.ChunkKind.{ChunkKind}
pub use Rattle.mig_legacy.specs.declared.chunk.ChunkKind.TheVariants.{End, Batch, VcpuMap, Tsc, LastCheckpoint, Toolstack, Param}
pub use Rattle.mig_legacy.specs.declared.read.ChunksSeen.{ChunksSeen}
pub use Rattle.mig_libxl_form.proofs.Formed.{context_kept, none_yet, pairs_kept, store_small}
pub use Rattle.mig_libxl_form.proofs.EmulatorGuests.{part_there, guest_done}
unfoldable pub use Rattle.mig_libxl_form.specs.Emulators.{emulators_of}
pub use Rattle.mig_libxl_form.specs.Emulators.{EmulatorsOf, put_libxl_content, no_emulators, with_emulators, store_at, add_pairs, last_context, spelled_with}
pub use Rattle.mig_libxl_form.specs.Formed.{AreEmulators}
pub use Rattle.mig_pagetypes.specs.FrameWords.{word_has_data, word_of, word_pfn, word_type}
pub use Rattle.mig_pagetypes.specs.LegacyWords.{legacy_pfn, legacy_type, legacy_word, placeholder, word_with}
pub use Rattle.mig_pagetypes.specs.Limits.{most_frames}
pub use Rattle.mig_policy.specs.PairFaults.{pairs_fault}
pub use Rattle.mig_policy.specs.PairMaps.{PairMap, put_pair, put_pairs, text_of_map, pairs_in}
pub use Rattle.mig_pvtables.specs.Blank.{blank_of, blank, IsOfBytes}
pub use Rattle.mig_pvtables.specs.Whole.{IsStreamed, IsStreamedBare, IsWhole}
pub use Rattle.mig_records.proofs.Places.{none_pass}
pub use Rattle.mig_records.specs.Words.{first_place, first_word, words}
pub use Rattle.mig_restore_form.proofs.Meaning.{last_entry_is, parts_got, sent_kind, part_ties}
pub use Rattle.mig_restore_form.specs.Judging.{entry_at, fault_of_level, fault_of_page, page_at, type_in_word, with_places}
unfoldable pub use Rattle.mig_restore_form.specs.Mean.{sent, mean}
pub use Rattle.mig_restore_form.specs.Mean.{put_record, empty_guest, entries_of, last_entry, frame_in, same_key, last_bytes, type_in_guest, put_entry, put_entries_by, GrewByRecord, IsBegun}
pub use Rattle.mig_restore_form.specs.Record.{StreamRecord, FrameEntry}
pub use Rattle.mig_restore_form.specs.Spelled.{AreEntries, IsGoodWord}
pub use Rattle.std.proofs.Common.{◌≡◌, ℕ, cond, List, [], ◌∷◌, ◌++◌, Option, Some, None, refl, sym, ap, ◌∙◌, arith, append_assoc, ◌+◌, ◌-◌, ◌<◌, ◌≤◌, Bool, not, length, drop, nat_eq, nat_lt, suc, ◌^◌, true, false, take, get_or, Result, Ok, Err, subst, ◌/◌, length-append, nat_le, eqb-true, ltb-false, ◌*◌, ◌≢◌, length-take-le, length-drop, ◌⊎◌, inl, inr, take-append-drop, drop-drop, eq-eqb, rules}
pub use Rattle.std.proofs.lemmas.Bool.{and_from, cases_eq, cases_lt, eqb-false, false≢true, le-leb, le-ltb, lt-ltb, not-false}
pub use Rattle.std.proofs.lemmas.Grind.{common_steps, flat_map-append}
pub use Rattle.std.proofs.lemmas.List.{append-nil, drop_at, get_or-drop, take_all, take_at}
pub use Rattle.std.proofs.lemmas.List.Elements.{All-drop, All-nil, All-cons, All-append, All-head, All-tail, All-take, All-replicate}
pub use Rattle.std.proofs.lemmas.List.Folds.{list_any_none, list_any-append}
pub use Rattle.std.proofs.lemmas.List.Sums.{fold-append, passes_at_first, prefix_len_stops}
pub use Rattle.std.specs.List.{All, flat_map, list_any}
pub use Rattle.std.specs.Option.{option_or, option_map}
pub use Rattle.std.specs.Prelude.{IfOk, IsOk, IsSome, OnOk, fold, min, option_and_then, replicate, unwrap_or, ◌&&◌, ◌==◌, ◌||◌}
pub use Rattle.mig_bytes.specs.declared.stop.Stop.TheVariants.{Memory, ReadFault, Refused}
pub use Rattle.mig_bytes_form.proofs.Joined.{begins_gives, begins_then, bytes_spelled, gives_begins, then_begins, then_is, then_judged}
pub use Rattle.mig_bytes_form.proofs.Tests.{append_named, computed_is, is_none, none_is}
pub use Rattle.mig_bytes_form.proofs.Verdicts.{begins_passes, passes_is_spelled, spelled_passes}
pub use Rattle.mig_guest.specs.Frames.{IsFew}
pub use Rattle.mig_headers.specs.declared.fault.Cause.{Cause}
pub use Rattle.mig_libxl_form.proofs.EmulatorMeaning.{either_of, last_context_is, last_value_is}
pub use Rattle.mig_pagetypes.specs.PageTypes.{level_of, number_of, type_of}
pub use Rattle.mig_pagetypes.specs.declared.page_type.PageType.{PageType}
pub use Rattle.mig_policy.proofs.KeyLaws.{spelled_read}
pub use Rattle.mig_records.proofs.BodyBytes.{bytes_back, bytes_front}
pub use Rattle.mig_records.proofs.Kept.{cut_is, is_part}
pub use Rattle.mig_restore_form.proofs.Growth.{empty_begun, grows_not}
pub use Rattle.mig_restore_form.proofs.PartsInOrder.{or_none}
pub use Rattle.std.specs.Result.{IsErrAnd}
pub use Rattle.mig_restore.proofs.Noted.{both_told, stops, then_noted}
pub use Rattle.byteorder.specs.Endian.{big_bytes}
pub use Rattle.mig_file.specs.Files.{left_at}
pub use Rattle.mig_outline.specs.Outline.{outline_frames}
