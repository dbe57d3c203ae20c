-- Names that many proofs of this crate use.
pub use Rattle.std.proofs.Common.{Bool, List, None, Option, Some, [], ap, append-nil, append_assoc, arith, cond, drop, false, filter, get_or, inl, inr, length, length-append, map, min, refl, replicate, subst, suc, sym, take, take-append-drop, true, zero, ℕ, ⊎_elim, ◌%◌, ◌*◌, ◌++◌, ◌+◌, ◌-◌, ◌/◌, ◌<◌, ◌^◌, ◌∙◌, ◌∷◌, ◌≡◌, ◌≤◌, ◌⊎◌}
pub use Rattle.std.proofs.KnownBytes.{Appends-trans}
pub use Rattle.std.proofs.lemmas.Bool.{and_parts, cases_lt, eqb-false, eqb-true, le-ltb, lt-ltb, ltb-false, or_cases, or_parts}
pub use Rattle.std.proofs.lemmas.List.{append_cancel_left, drop-append-le, get_or-set_other, get_or-set_same, get_or-take, get_or_past, length-drop, length-map, length-replicate, length-take, map-append}
pub use Rattle.std.specs.Cmp.{nat_cmp_total}
pub use Rattle.std.specs.FinMap.{nat_cmp-IsAntisymmetric}
pub use Rattle.std.specs.Io.KnownBytes.{Appends, append_known}
pub use Rattle.std.specs.List.{All, AllByRecursion, list_any, range_with_len}
pub use Rattle.std.specs.Option.{option_map, option_or}
pub use Rattle.std.specs.Prelude.{Err, IfSome, IsErrAnd, IsSome, Ok, Result, find, flat_map, fold, is_some, not, option_and_then, ◌&&◌, ◌==◌, ◌||◌}
pub use Rattle.mig_bytes.specs.Bytes.{AppendsPart, padding_len}
pub use Rattle.mig_bytes.specs.Sequences.Spells.{no_part, one_more}
pub use Rattle.mig_bytes.specs.Sequences.{Spells}
pub use Rattle.mig_canon.specs.Batched.{IsSendable, IsSendableBatch, TellFrames, batch_records, batched, batched_bodies, frames_told, told}
pub use Rattle.mig_canon.specs.Canon.{headers, info_records, last_records, p2m_records, static_bodies}
pub use Rattle.mig_canon.specs.CanonStream.{bare_guest, has_emulators, is_of_converter, opening_text, wrapper_closing, wrapper_opening}
pub use Rattle.mig_dirtysave.specs.Paused.{HasTypes, HoldsOf, OnlyLooksUp, first_around, first_in_tables, standing_seen, standing_with, types_seen, with_names, with_view}
pub use Rattle.mig_dirtysave.specs.SaveAnswers.{IfUnsound, IsLittleBehind, IsTrusted, LeavesNoStream, PausesMachine, SaveEnds, SaveWritten, WroteMost}
pub use Rattle.mig_dirtysave.specs.Saver.{PreparedFor, SaverOf}
pub use Rattle.mig_dirtysave.specs.Unended.{AreCutOff, AreRecords, HaveNoEnd, IsCutLibxl, IsCutRecord, IsUnclosedImage, IsUnended, IsUnendedImage}
pub use Rattle.mig_dirtysave.specs.Unread.{EndedImage, HasNoStream, WroteNoStream}
pub use Rattle.mig_dirtysave_parts.proofs.Codes.{are_within, both_all, emulator_setting, emulators_kept, emulators_seen, first_records, first_seen, first_within, holds_kept, kept_formed, no_pv, viewed_kind}
pub use Rattle.mig_dirtysave_parts.proofs.Texts.{appends_first, nothing_stops, on_err, part_behind, some_records}
pub use Rattle.mig_dirtysave_parts.specs.KeptParts.{HoldsParts, SameEmulators, is_early, is_setting, kept_parts, parts_alone}
pub use Rattle.mig_dirtysave_parts.specs.SaveTexts.{ClosesStream, IsOtherRecord, StopsBehind, settings_seen, text_before}
pub use Rattle.mig_dirtysave_rounds.specs.Entries.{AreTold, IsToldEntry, MostSent, TellMost, frames_meant, pfns_sent, put_at, put_told}
pub use Rattle.mig_dirtysave_rounds.specs.Forms.{form_of_print, form_page, is_lost, lost_in, lost_slot, superpage_in, superpage_slot}
pub use Rattle.mig_dirtysave_rounds.specs.Live.{FramesSaved, HasRounds, IsUnsound, KeepsShape, ReadsExactly, forms, table_fault, tables_unsound, type_in}
pub use Rattle.mig_dirtysave_rounds.specs.Parts.{entries_read}
pub use Rattle.mig_guest.proofs.Longs.{length_longs}
pub use Rattle.mig_guest.proofs.PartOrder.{part_exact, part_total}
pub use Rattle.mig_guest.proofs.PartRows.{one_code}
pub use Rattle.mig_guest.specs.Footprints.{footprint, footprint_of, named_by, names_in, table_in}
pub use Rattle.mig_guest.specs.Formed.{HasNoEmulators, IsFormed, IsGuestFrame, gdt_ents, is_emulator_code}
pub use Rattle.mig_guest.specs.Frames.{FrameMap, FrameOf, framed, is_type_of}
pub use Rattle.mig_guest.specs.Guests.{GuestOf}
pub use Rattle.mig_guest.specs.History.{History, no_history}
pub use Rattle.mig_guest.specs.Hosts.{HostFrame, HostFrames, HostOf, IsValid, most_width, pfn_in}
pub use Rattle.mig_guest.specs.Limits.{most_gdt_entries}
pub use Rattle.mig_guest.specs.Longs.{long_at}
pub use Rattle.mig_guest.specs.MachineStates.{IsSameShape, MachineState}
pub use Rattle.mig_guest.specs.Order.{part_cmp}
pub use Rattle.mig_guest.specs.PartCodes.{is_fixed, row_of}
pub use Rattle.mig_guest.specs.PartKeys.{context_key, p2m_key, shared_key}
pub use Rattle.mig_guest.specs.Parts.{Part, PartMap, parts_after, parts_of}
pub use Rattle.mig_guest.specs.Tables.{EachEntry, IsWithin, blanked_entry, blanked_table, entry, is_blank_slot}
pub use Rattle.mig_guest.specs.declared.part_code.PartCode.TheVariants.{HvmContext, SharedInfo, VcpuBasic}
pub use Rattle.mig_guest.specs.declared.part_key.PartKey.{PartKey}
pub use Rattle.mig_guest.specs.declared.table.Entry.TheVariants.{Blank, Frame, NotPresent, Superpage}
pub use Rattle.mig_guest.specs.declared.table.Entry.{Entry}
pub use Rattle.mig_headers.specs.Contexts.{scan}
pub use Rattle.mig_headers.specs.Headers.{libxl_ident, marker}
pub use Rattle.mig_headers.specs.declared.kind.Kind.TheVariants.{Hvm, Pv}
pub use Rattle.mig_headers.specs.declared.kind.Kind.{Kind}
pub use Rattle.mig_headers.specs.declared.unsound.Unsound.TheVariants.{BadContext, GdtEnts, P2mFrame, VcpuFrame}
pub use Rattle.mig_headers.specs.declared.unsound.Unsound.{Unsound}
pub use Rattle.mig_host_laws.specs.FirstRow.{find_said, first_row, names_ill, row_1, row_2, row_3, row_4, row_5, row_6, row_7}
pub use Rattle.mig_host_laws.specs.Standing.{Standing, in_host, is_of_no_type, said_in, said_of, says_in}
pub use Rattle.mig_host_laws.specs.Unsoundness.{IsWrong, NamesFirstRow, UnsoundHas}
pub use Rattle.mig_host_view.proofs.LocaliseContexts.{FieldsRenamed, field_put, field_unused, fields_end, fields_start, same_says}
pub use Rattle.mig_host_view.proofs.ViewedGuests.{viewed_blank, viewed_whole}
pub use Rattle.mig_host_view.specs.Normalised.{normalised_of}
pub use Rattle.mig_host_view.specs.RenamedContexts.{renamed_context}
pub use Rattle.mig_host_view.specs.Sound.{IsSound, fault_in, find_gdt, unsoundness}
pub use Rattle.mig_host_view.specs.View.{guest_in, hvm_view, top_of, view, without_machine}
pub use Rattle.mig_libxl.proofs.Alike.{closing_alike, opening_alike, some_alike}
pub use Rattle.mig_libxl_form.specs.Spelled.{AcceptedStream, FollowsLibxl, IsLibxlRecord, IsStream, IsWrapped}
pub use Rattle.mig_pagetypes.specs.PageTypes.{level_of}
pub use Rattle.mig_pagetypes.specs.declared.page_type.PageType.{PageType}
pub use Rattle.mig_pvtables.proofs.EachValue.{each_each, entries_each, get_each, len_each, same_each, some_each, stays_each, to_each}
pub use Rattle.mig_pvtables.proofs.Walks.{NoneMisses, context_there, contexts_start, field_fits, field_misses, in_contexts, in_fields, large_in, misses_end, misses_start, taken}
pub use Rattle.mig_pvtables.specs.BadEntries.{is_unknown}
pub use Rattle.mig_pvtables.specs.Blank.{blank, blank_of, blanked_frame, blanked_page, blanked_part, each_value}
pub use Rattle.mig_pvtables.specs.BlankSteps.{blanked_code, only}
pub use Rattle.mig_pvtables.specs.Faults.{field_numbers, find_in_contexts, find_misplaced, first_cause, first_some, fits_field, slots, type_at}
pub use Rattle.mig_pvtables.specs.VcpuContexts.{blanked_context, blanked_shared, field_value, frame_of_field, is_used_somewhere}
pub use Rattle.mig_pvtables.specs.Whole.{IsWhole}
pub use Rattle.mig_records.proofs.RecordTexts.{text_join, text_one}
pub use Rattle.mig_records.specs.Records.{IsRecord, Record, spelled, text_of}
pub use Rattle.mig_records_pages.specs.Batches.{AreSized}
pub use Rattle.mig_records_pages.specs.Told.{FrameTold, all_told, frame_or_xtab, telling_frame, telling_frames, telling_record}
pub use Rattle.mig_records_pages.specs.Written.{AreRecordsWithin, IsRecordWithin, IsShortRecord, WroteAll, WroteSome}
pub use Rattle.mig_restore_form.specs.Spelled.{Accepted, Follows, IsComplete, IsImage}
pub use Rattle.byteorder.specs.Endian.{little_bytes, little_number}
pub use Rattle.byteorder.specs.Numbers.{big_from-append, length-bytes_low_first, little_from-append}
pub use Rattle.mig_dirtysave.specs.declared.answer.SaveAnswer.{SaveAnswer}
pub use Rattle.mig_dirtysave_parts.proofs.Closings.{hvm_closes, others_are, pv_closes}
pub use Rattle.mig_dirtysave_parts.proofs.Rows.{hvm_judged, hvm_type, no_level}
pub use Rattle.mig_guest.specs.Rounds.{Rounds, Tight, all_read, rounds_read}
pub use Rattle.mig_host_laws.proofs.Instances.{host_wide, unsoundness_named}
pub use Rattle.mig_host_laws.proofs.Savers.{row_stands, saver_finds}
pub use Rattle.mig_host_view.specs.Localised.{renamed, renamed_frame, renamed_page, renamed_part}
pub use Rattle.mig_libxl.proofs.Around.{closing_none, closing_some, opening_none, opening_some}
pub use Rattle.mig_libxl.proofs.Canon.{bare_is, bare_plain, bare_whole, batched_bare, pv_plain}
pub use Rattle.mig_pvtables.proofs.BlankCodes.{ChangedUpTo, code_end, code_fewer, code_long, code_next, code_start}
pub use Rattle.mig_pvtables.proofs.P2mWalks.{AreMarked, IsFineTo, found_ill, is_typed, more_fine, more_marked, none_has, none_ill, nothing_ill, nothing_marked, one_has}
pub use Rattle.mig_pvtables.proofs.Searches.{all_none, cond_none, first_found, none_mapped, none_of}
pub use Rattle.mig_pvtables.proofs.Slots.{no_slot, slot_found}
pub use Rattle.mig_pvtables.specs.P2mFrames.{listed_in, place_in, place_of}
pub use Rattle.mig_records_pages.proofs.Written.{all_behind, none_of_next, some_behind}
pub use Rattle.mig_restore_form.proofs.PartsInOrder.{or_none}
pub use Rattle.std.proofs.lemmas.List.Elements.{All-cons, All-head, All-nil, All-tail}
pub use Rattle.std.specs.Ordering.{eq_by_cmp, is_lt, nat_cmp}
