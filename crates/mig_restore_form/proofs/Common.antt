-- Names that many proofs of this crate use.
pub use Rattle.std.proofs.Common.{Bool, Err, List, None, Ok, Option, Result, Some, [], ap, append_assoc, arith, cond, drop, false, get_or, inl, inr, is_some, le_refl, leb-false, length, length-append, length-drop, length-take-le, ltb-false, nat_eq, nat_le, not, refl, rules, subst, suc, sym, take, take-append-drop, true, vec_len, zero, ℕ, ◌*◌, ◌++◌, ◌+◌, ◌-◌, ◌<◌, ◌^◌, ◌∙◌, ◌∷◌, ◌≡◌, ◌≢◌, ◌≤◌, ◌⊎◌}
pub use Rattle.std.proofs.lemmas.Bool.{and_parts, cases_lt, eq-eqb, eqb-false, eqb-true, le-leb, le-ltb, leb-true, lt-leb, lt-ltb, ne_eqb, not-false, or_parts}
pub use Rattle.std.proofs.lemmas.Grind.{common_steps}
pub use Rattle.std.proofs.lemmas.List.{append-nil, drop-append-le, length-map, map-append}
pub use Rattle.std.proofs.lemmas.List.Elements.{All-append, All-cons, All-head, All-nil, All-tail, Contains-append_left, Contains-append_right}
pub use Rattle.std.proofs.lemmas.List.Folds.{list_any-append}
pub use Rattle.std.proofs.lemmas.Option.{none-some, same_Some, slice_get_past}
pub use Rattle.std.specs.Cmp.{nat_cmp_total}
pub use Rattle.std.specs.List.{All, AllByRecursion, Contains, count_by, fold, list_any}
pub use Rattle.std.specs.Option.{option_map, option_or}
pub use Rattle.std.specs.Ordering.{eq_by_cmp, nat_cmp}
pub use Rattle.std.specs.Prelude.{T, option_and_then, unwrap_or, ◌/◌, ◌||◌, ◌↔◌}
pub use Rattle.mig_bytes.proofs.Joins.{both_pass, part_passes, part_whole, placed_passes, same_passes, stopped, then_passes, then_reads, tried_none, tried_passes}
pub use Rattle.mig_bytes.proofs.Said.{said_goes, said_passes}
pub use Rattle.mig_bytes.specs.Bytes.{AreBytes, padding_len}
pub use Rattle.mig_bytes.specs.Fields.{be32, le32, le64}
pub use Rattle.mig_bytes.specs.Judged.{Judged, part, placed, plain_at, said_at, tried, ◌>>=◌}
pub use Rattle.mig_bytes.specs.Judged.Judged.{Faulty, Passes}
pub use Rattle.mig_bytes.specs.Sequences.{Spells, sequence_at}
pub use Rattle.mig_bytes.specs.Sequences.Spells.{no_part, one_more}
pub use Rattle.mig_guest.proofs.KeyedMaps.{tied}
pub use Rattle.mig_guest.proofs.PartOrder.{part_exact, part_total}
pub use Rattle.mig_guest.specs.Formed.{AreParts, HasNoEmulators, IsInside, is_emulator_code, is_policy, width_of}
pub use Rattle.mig_guest.specs.Frames.{FrameMap, FrameOf, framed, is_type_of}
pub use Rattle.mig_guest.specs.Guests.{GuestOf}
pub use Rattle.mig_guest.specs.Order.{part_cmp}
pub use Rattle.mig_guest.specs.PartCodes.{code_number, row_of}
pub use Rattle.mig_guest.specs.PartKeys.{p2m_key}
pub use Rattle.mig_guest.specs.Parts.{Part, PartMap, put_part, put_parts, replace_code}
pub use Rattle.mig_guest.specs.Tables.{EachEntry, IsWithin, entry}
pub use Rattle.mig_guest.specs.declared.part_code.PartCode.{PartCode}
pub use Rattle.mig_guest.specs.declared.part_code.PartCode.TheVariants.{P2mFrames}
pub use Rattle.mig_guest.specs.declared.part_key.PartKey.{PartKey}
pub use Rattle.mig_headers.proofs.FirstFaults.{both_none, neither_some, no_fault, rows_fine}
pub use Rattle.mig_headers.proofs.HeaderLaws.{domain_is_spelled, image_is_spelled, unless_ok}
pub use Rattle.mig_headers.proofs.RecordNumbers.{numbers_are_inverse, mandatory, same_number}
pub use Rattle.mig_headers.specs.Headers.{IsDomainHeader, IsImageHeader, fault_of_domain, fault_of_image, fault_of_marker, kind_of_number, unless_faulty}
pub use Rattle.mig_headers.specs.RecordTypes.{is_optional, most_body, record_row_of, record_types, type_number, type_of_number}
pub use Rattle.mig_headers.specs.declared.fault.Cause.{Cause}
pub use Rattle.mig_headers.specs.declared.fault.Cause.TheVariants.{BadLength, TooManyRecords, Truncated}
pub use Rattle.mig_headers.specs.declared.fault.Place.{Place}
pub use Rattle.mig_headers.specs.declared.kind.Kind.{Kind}
pub use Rattle.mig_headers.specs.declared.kind.Kind.TheVariants.{Hvm, Pv}
pub use Rattle.mig_headers.specs.declared.record_type.RecordType.{RecordType}
pub use Rattle.mig_headers.specs.declared.record_type.RecordType.TheVariants.{End, PageData, StaticDataEnd, Verify, X86PvInfo, X86PvP2mFrames}
pub use Rattle.mig_order.proofs.OrderLaw.{faultless_is_in_order}
pub use Rattle.mig_order.specs.Order.{IsInOrder, fault_of_type, ordered}
pub use Rattle.mig_pagetypes.specs.FrameWords.{some_has_data, word_has_data, word_pfn, word_type}
pub use Rattle.mig_pagetypes.specs.Limits.{pfn_limit}
pub use Rattle.mig_pagetypes.specs.PageTypes.{level_of, number_of, type_has_data, type_of, type_or_none}
pub use Rattle.mig_pagetypes.specs.declared.page_type.PageType.{PageType}
pub use Rattle.mig_pagetypes.specs.declared.page_type.PageType.TheVariants.{Notab, Xtab}
pub use Rattle.mig_pvtables.specs.Blank.{IsOfBytes, blank}
pub use Rattle.mig_pvtables.specs.Faults.{fault_of_guest}
pub use Rattle.mig_records.proofs.BodyBytes.{bodies_say_bytes, bytes_back, bytes_front, list_bytes, sets_bytes}
pub use Rattle.mig_records.proofs.Spelled.{bodies_are_spelled, is_shaped}
pub use Rattle.mig_records.specs.Faults.{count_rows, fault_of_count, fault_of_length, fault_of_long, fault_of_words, length_rows, long_rows, type_allows}
pub use Rattle.mig_records.specs.PvBodies.{IsP2m, fault_of_p2m, fault_of_pv_info, greater, listed_over, set_p2m}
pub use Rattle.mig_records.specs.Shapes.{HasBodyLength, IsBody, IsShaped, fault_of_body, has_shape, named_parts, parts_of_body, set_parts, shape_of}
pub use Rattle.mig_records.specs.Words.{data_len_of, is_outside, words}
pub use Rattle.mig_restore_form.specs.Judging.{Before, Opening, before, body_at, code_of_type, coded_at, entries_at, entry_at, fault_at_end, fault_of_data, fault_of_head, fault_of_level, fault_of_list, fault_of_number, fault_of_page, head_at, info_at, list_at, lists_of, most_records, next_at, opening_of, p2m_at, pages_at, record_at, sets_at, type_in_word, typed_at, with_places, words_at}
pub use Rattle.mig_restore_form.specs.Mean.{GrewByRecord, IsBegun, agrees, checked_in, checked_of, differing, empty_guest, entries_in, entries_of, frame_in, last_bytes, type_in_guest, parts_say_of_part, policy_says_of_part, put_content, put_entries, put_entry, says_of_part, sent}
pub use Rattle.mig_restore_form.specs.Record.{Content, FrameEntry, StreamRecord, is_ended, is_verified, placed_content, types_of}
pub use Rattle.mig_restore_form.specs.Record.Content.{Checks, Frames, Lists, Nothing, Sets}
pub use Rattle.mig_restore_form.specs.Spelled.{Accepted, AreEntries, Follows, HasContent, IsBatch, IsComplete, IsEntry, IsGoodWord, IsImage, IsPage}
pub use Rattle.mig_restore_form.specs.Spelled.HasContent.{ends, info, optional, p2m_frames, pages, sets, static_end, verify}
pub use Rattle.mig_restore_form.specs.Stream.{ImageOf, image_of, placed_next, records_at}
pub use Rattle.mig_guest.proofs.Found.{Each, found_first, insert_holds, remove_holds}
pub use Rattle.mig_records.specs.Layouts.{AreTableEntries, IsSmallKey}
pub use Rattle.std.proofs.lemmas.List.FromFn.{length-map-range_with_len, map-range_with_len_more}
pub use Rattle.std.proofs.lemmas.List.Sums.{fold-append, sum_by-append}
pub use Rattle.std.specs.FinMap.{find, is_sorted, nat_cmp-IsAntisymmetric}
