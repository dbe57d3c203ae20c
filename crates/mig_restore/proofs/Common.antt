-- Names that many proofs of this crate use.
pub use Rattle.mig_records.proofs.PvLaws.{p2m_is_spelled}
pub use Rattle.mig_records.specs.PvBodies.{fault_of_p2m, fault_of_pv_info}
pub use Rattle.mig_records.specs.Shapes.{HasBodyLength, fault_of_body, parts_of_body}
pub use Rattle.mig_bytes.proofs.Joins.{any_stop, done, each_ends, each_step, judged_so, mapped, part_whole, refused, stop, stopped, then_reads, both_pass, same_passes, weakened}
pub use Rattle.mig_bytes.specs.Bytes.{AreBytes, padding_len}
pub use Rattle.mig_bytes.specs.Fields.{le32}
pub use Rattle.mig_bytes.specs.Judged.{AgreesWithJudging, Judged, part, placed, said_at, stop_at, tried, ◌>>=◌, each, plain_at}
pub use Rattle.mig_bytes.specs.Judged.Judged.{Faulty, Passes}
pub use Rattle.mig_bytes.specs.declared.stop.Stop.{Stop}
pub use Rattle.mig_headers.specs.declared.fault.Cause.{Cause}
pub use Rattle.mig_headers.specs.declared.fault.Cause.TheVariants.{Truncated}
pub use Rattle.mig_headers.specs.declared.fault.Place.{Place}
pub use Rattle.mig_headers.specs.declared.fault.Place.TheVariants.{DomainHeader, ImageHeader, Record}
pub use Rattle.mig_guest.specs.Formed.{IsInside}
pub use Rattle.mig_guest.specs.Guests.{GuestOf}
pub use Rattle.mig_guest.specs.PartCodes.{code_of_number}
pub use Rattle.mig_guest.specs.Tables.{IsWithin, entry}
pub use Rattle.mig_guest.specs.declared.part_code.PartCode.{PartCode}
pub use Rattle.mig_headers.specs.declared.kind.Kind.{Kind}
pub use Rattle.mig_headers.specs.declared.record_type.RecordType.{RecordType}
pub use Rattle.mig_restore_form.specs.Judging.{Before, Opening, before, body_at, code_of_type, entry_at, fault_of_head, fault_of_level, fault_of_list, fault_of_page, head_at, list_at, lists_of, next_at, opening_of, pages_at, record_at, type_in_word, typed_at, with_places, coded_at}
pub use Rattle.mig_restore_form.specs.Mean.{GrewByRecord, IsBegun, agrees, checked_in, checked_of, differing, empty_guest, entries_in, is_same_frame, put_content, put_content_by, put_entries_by, put_entry, some_frame, type_in_guest, sent}
pub use Rattle.mig_restore_form.specs.Record.{Content, FrameEntry, StreamRecord, is_ended, is_verified, placed_content, types_of}
pub use Rattle.mig_restore_form.specs.Record.Content.{Checks, Frames, Lists, Nothing, Sets}
pub use Rattle.mig_restore_form.specs.Seen.{IsSeen}
pub use Rattle.mig_restore_form.specs.Spelled.{Follows, IsGoodWord}
pub use Rattle.mig_restore_form.specs.Stream.{ImageOf, image_of, kind_at, marker_at, placed_next, records_at, version_at}
pub use Rattle.mig_restore_form.specs.declared.head.RecordsSeen.{RecordsSeen}
pub use Rattle.mig_pagetypes.specs.FrameWords.{word_has_data, word_pfn}
pub use Rattle.mig_pagetypes.specs.Limits.{pfn_limit}
pub use Rattle.mig_pagetypes.specs.PageTypes.{level_of, type_has_data}
pub use Rattle.mig_pagetypes.specs.declared.page_type.PageType.{PageType}
pub use Rattle.mig_pvtables.specs.Faults.{fault_of_guest}
pub use Rattle.mig_records.specs.Faults.{fault_of_count}
pub use Rattle.mig_restore.specs.Compared.{IsCompared, IsImageCompared, IsWithinRecords, differs_behind, differs_with}
pub use Rattle.mig_restore.specs.Kept.{EntryStep, NotesImage, NotesOn, kept_guest, put_frames}
pub use Rattle.mig_restore.specs.PageReads.{entry_with}
pub use Rattle.mig_restore.specs.Reads.{IsReading, IsTaken, IsTakenAndCompared}
pub use Rattle.std.proofs.Common.{Bool, Err, List, None, Ok, Option, Result, Some, [], ap, append_assoc, arith, cond, drop, false, get_or, inl, inr, is_some, length, nat_eq, not, refl, rules, subst, sym, take, true, ℕ, ◌*◌, ◌++◌, ◌+◌, ◌-◌, ◌<◌, ◌^◌, ◌∙◌, ◌∷◌, ◌≡◌, ◌≢◌, ◌≤◌, ◌⊎◌}
pub use Rattle.std.proofs.lemmas.Bool.{eq-eqb, ne_eqb}
pub use Rattle.std.proofs.lemmas.List.{length-map, map-append, take-append-drop, take_all, take_more}
pub use Rattle.std.proofs.lemmas.Option.{none-some, same_Some}
pub use Rattle.std.specs.Prelude.{OnErr, OnOk, ◌||◌, ⊤}
pub use Rattle.mig_bytes.proofs.Placed.{placed_ends, placed_fine, placed_stops, placed_then}
pub use Rattle.mig_bytes.proofs.Said.{said_read}
pub use Rattle.mig_bytes.specs.declared.stop.Stop.TheVariants.{Memory, Refused}
pub use Rattle.mig_guest.specs.Frames.{FrameMap, framed}
pub use Rattle.mig_restore.specs.Begun.{AreEntriesBegun, AreEntriesSet, entry_name, word_name}
pub use Rattle.mig_restore.specs.declared.read.TakenImage.{TakenImage}
pub use Rattle.mig_restore_form.proofs.Batches.{carries, entry_here, level_within, list_refused, pages_read, pages_stopped, place_within, places_len}
pub use Rattle.mig_restore_form.proofs.Compared.{IsPlaced, IsSaid, IsUnchecked, body_said, checked_more, differing_join, next_placed, some_differs, unchecked_more, verified_more}
pub use Rattle.mig_restore_form.proofs.Growth.{empty_begun, grows_frame, grows_list, grows_not, grows_on, grows_sets, has_length, same_kinds, sets_no_emulator, word_inside}
pub use Rattle.mig_restore_form.proofs.Laws.{behind_kind, behind_version, finds}
pub use Rattle.mig_restore_form.proofs.Meaning.{ended_more, entry_set, meant_as_sent, one_more_entry, one_more_record, sent_kind}
pub use Rattle.mig_restore_form.proofs.Parts.{asks, begins, behind_body, behind_head, behind_record, goes_on, last_faulty, last_fine, not_last, padded}
pub use Rattle.std.proofs.lemmas.List.Sums.{fold-append}
pub use Rattle.std.specs.Result.{IsErrAnd}
pub use Rattle.mig_headers.specs.declared.record_type.RecordType.TheVariants.{PageData, X86PvInfo, X86PvP2mFrames}
pub use Rattle.mig_bytes.proofs.Fronts.{TakesFronts, front_part, front_said}
