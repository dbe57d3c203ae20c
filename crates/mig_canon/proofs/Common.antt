-- Names that many proofs of this crate use.
pub use Rattle.std.proofs.Common.{Bool, IfSome, IsSome, List, None, Option, Result, Some, [], ap, append-nil, append_assoc, arith, cond, drop, drop-cons, drop-drop, false, get_or, inr, le_refl, length, length-append, map, min, nat_eq, nat_lt, not, refl, replicate, rules, subst, suc, sym, take, take-append-drop, true, zero, ℕ, ◌%◌, ◌*◌, ◌++◌, ◌+◌, ◌-◌, ◌/◌, ◌<◌, ◌^◌, ◌∙◌, ◌∷◌, ◌≡◌, ◌≢◌, ◌≤◌}
pub use Rattle.std.proofs.KnownBytes.{Appends-trans}
pub use Rattle.std.proofs.lemmas.Bool.{and_parts, and_right, eq-eqb, eqb-true, le-leb, le-ltb, not-true}
pub use Rattle.std.proofs.lemmas.Grind.{common_steps, flat_map-append}
pub use Rattle.std.proofs.lemmas.List.{drop_min, length-drop, length-replicate, length-take, map-append, map-id, replicate-append-replicate, take_all, take_min}
pub use Rattle.std.proofs.lemmas.List.Elements.{All-append, All-cons, All-drop, All-filter, All-head, All-nil, All-tail, All-take, filter_passes}
pub use Rattle.std.proofs.lemmas.List.FromFn.{get_or-map-range_with_len, length-map-range_with_len, map-range_with_len_more, take-map-range_with_len}
pub use Rattle.std.specs.Cmp.{nat_cmp_total, tied_then, unsigned_tied}
pub use Rattle.std.specs.FinMap.{find, is_sorted, nat_cmp-IsAntisymmetric}
pub use Rattle.std.specs.FinMap.Entries.{below_all, find-where_key, is_sorted-where_key}
pub use Rattle.std.specs.Io.KnownBytes.{Appends}
pub use Rattle.std.specs.List.{All, AllByRecursion, flat_map, list_all, list_any, range_with_len}
pub use Rattle.std.specs.Option.{option_or}
pub use Rattle.std.specs.Ordering.{eq_by_cmp, is_eq, is_lt, nat_cmp, ordering_then}
pub use Rattle.std.specs.Prelude.{T, fold, if◌then◌else◌, is_some, unwrap_or, ◌&&◌, ◌==◌, ◌||◌}
pub use Rattle.byteorder.specs.Endian.{little_bytes, little_number}
pub use Rattle.byteorder.specs.Numbers.{length-bytes_low_first, little_number-reads_back}
pub use Rattle.mig_bytes.proofs.Texts.{puts_same, puts_stop, puts_then}
pub use Rattle.mig_bytes.specs.Bytes.{AppendsPart, Puts, padding_len}
pub use Rattle.mig_bytes.specs.Sequences.{Spells}
pub use Rattle.mig_canon.specs.Batched.{IsSendable, IsSendableBatch, TellFrames, batch_records, batched, batched_bodies, frames_told, told}
pub use Rattle.mig_canon.specs.Canon.{batch, batches, frame_bodies, frames_in, headers, info_records, key_of, last_codes, last_records, p2m_body, p2m_records, part_record, pv_last_codes, records_in_order, records_of, records_of_vcpu, static_bodies, static_codes, vcpu_codes, vcpu_record, vcpus_below}
pub use Rattle.mig_canon.specs.Pieces.{IsShortPart, piece}
pub use Rattle.mig_guest.proofs.KeyedMaps.{tied}
pub use Rattle.mig_guest.proofs.PartCursor.{both_of, not_itself}
pub use Rattle.mig_guest.proofs.PartOrder.{part_exact, part_total}
pub use Rattle.mig_guest.proofs.PartRows.{numbered, of_part}
pub use Rattle.mig_guest.specs.Formed.{HasNoEmulators, IsFormed, IsInside, IsPart, IsTop, is_emulator_code, is_policy, width_of}
pub use Rattle.mig_guest.specs.Frames.{FrameMap, IsFew, is_type_of}
pub use Rattle.mig_guest.specs.Guests.{GuestOf}
pub use Rattle.mig_guest.specs.Order.{part_cmp}
pub use Rattle.mig_guest.specs.PartCodes.{code_number, no_keys, row_of}
pub use Rattle.mig_guest.specs.PartKeys.{p2m_key}
pub use Rattle.mig_guest.specs.Parts.{Part, PartMap, parts_after, parts_of, put_part, put_parts, replace_code}
pub use Rattle.mig_guest.specs.declared.part_code.PartCode.{PartCode}
pub use Rattle.mig_guest.specs.declared.part_code.PartCode.TheVariants.{CpuidLeaf, Msr, P2mFrames, SharedInfo, Tsc, VcpuBasic, VcpuExtended, VcpuMsrs, VcpuXsave}
pub use Rattle.mig_guest.specs.declared.part_key.PartKey.{PartKey}
pub use Rattle.mig_headers.specs.RecordTypes.{pv, type_number, type_of_number}
pub use Rattle.mig_headers.specs.declared.kind.Kind.{Kind}
pub use Rattle.mig_headers.specs.declared.kind.Kind.TheVariants.{Hvm, Pv}
pub use Rattle.mig_headers.specs.declared.record_type.RecordType.{RecordType}
pub use Rattle.mig_pagetypes.specs.Limits.{pfn_limit, top_limit}
pub use Rattle.mig_pagetypes.specs.declared.page_type.PageType.{PageType}
pub use Rattle.mig_records.proofs.Canonical.{canonical_bodies_say}
pub use Rattle.mig_records.proofs.RecordTexts.{record_text, text_join, text_one}
pub use Rattle.mig_records.specs.Layouts.{AreWidths, entries_text, entry_width, front_text, front_width, table_text}
pub use Rattle.mig_records.specs.PvBodies.{IsP2m, IsPvInfo, greater, listed_over, p2m_count, set_p2m}
pub use Rattle.mig_records.specs.Records.{Record, head_of, spelled, text_of}
pub use Rattle.mig_records.specs.Shapes.{IsBody, IsRecordBody, IsRow, IsShaped, SayAll, bodies_by_shape, canonical_bodies, contents_by_shape, of_vcpu, part_body, parts_at, set_parts, shape_of, sole_key}
pub use Rattle.mig_records.specs.declared.layout.Layout.{Layout}
pub use Rattle.mig_records.specs.declared.shape.Shape.{Shape}
pub use Rattle.mig_records.specs.declared.shape.Shape.TheVariants.{Chain, Named, Other, Single, Table}
pub use Rattle.mig_records_pages.proofs.ListSteps.{done_on, done_stop, more_done, walk_on, walk_stop}
pub use Rattle.mig_records_pages.proofs.PageTexts.{words_len}
pub use Rattle.mig_records_pages.specs.PageData.{Frame, body_of, most_entries, page_in, pages_of, words_of}
pub use Rattle.mig_restore_form.specs.Mean.{empty_guest, put_content, put_entries, put_entry, sent, type_in_guest}
pub use Rattle.mig_restore_form.specs.Record.{Content, StreamRecord, is_ended, placed_content, types_of}
pub use Rattle.mig_restore_form.specs.Record.Content.{Checks, Frames, Lists, Nothing, Sets}
pub use Rattle.mig_restore_form.specs.Spelled.{Accepted, AreEntries, Follows, HasContent, IsBatch, IsComplete, IsEntry, IsGoodWord, IsImage, IsPage}
pub use Rattle.mig_bytes.specs.Sequences.Spells.{no_part, one_more}
pub use Rattle.mig_guest.proofs.Found.{all_found, found_first}
pub use Rattle.mig_pagetypes.specs.declared.page_type.PageType.TheVariants.{Notab, Xtab}
pub use Rattle.mig_restore_form.proofs.Meaning.{meant_as_sent, one_more_record}
pub use Rattle.mig_restore_form.specs.Spelled.HasContent.{ends, info, p2m_frames, sets, static_end}
