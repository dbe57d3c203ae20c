-- Names that the proofs of this crate use of other crates, and its own definitions.
pub use Rattle.std.proofs.Common.{Bool, Err, IsSome, List, None, Ok, Option, Result, Some, [], ap, append-nil, append_assoc, arith, cond, drop, drop-drop, false, inl, inr, is_none, is_some, length, length-append, length-drop, length-take-le, ltb-false, nat_eq, nat_le, nat_lt, not, refl, slice_index, subst, suc, sym, take, take-append-drop, true, zero, ℕ, ◌*◌, ◌++◌, ◌+◌, ◌-◌, ◌/◌, ◌<◌, ◌^◌, ◌∙◌, ◌∷◌, ◌≡◌, ◌≤◌, ◌⊎◌}
pub use Rattle.std.proofs.Math.Seq.{drop-append_seam, take-append_seam}
pub use Rattle.std.proofs.lemmas.Bool.{and_from, and_parts, both_ways, cases_Bool, cases_eq, cases_lt, cases_order, eq-eqb, eqb-false, eqb-true, false_from_ne_true, false≢true, le-leb, le-ltb, leb-false, leb-true, lt-leb, lt-ltb, ltb-true, ne_eqb, not-true, not_from_false, or_cases, or_left, or_right}
pub use Rattle.std.proofs.lemmas.Grind.{common_steps}
pub use Rattle.std.proofs.lemmas.List.{append_cancel_right}
pub use Rattle.std.proofs.lemmas.List.Elements.{All-append, All-from_recursion, All-head, All-tail, recursion_from_All}
pub use Rattle.std.proofs.lemmas.Option.{none-some, same_Some}
pub use Rattle.std.specs.Cmp.{IsTotalOrder, nat_cmp_total, ranked}
pub use Rattle.std.specs.FinMap.{FinMap, IsAntisymmetric, nat_cmp-IsAntisymmetric}
pub use Rattle.std.specs.List.{All, flat_map, list_any, range_with_len}
pub use Rattle.std.specs.Option.{option_map, option_or}
pub use Rattle.std.specs.Prelude.{find, ◌&&◌, ◌==◌, ◌||◌}
pub use Rattle.std.specs.declared.cmp.Ordering.{Ordering}
pub use Rattle.std.specs.declared.cmp.Ordering.TheVariants.{Equal, Greater, Less}
pub use Rattle.byteorder.specs.Endian.{little_bytes, little_number}
pub use Rattle.mig_bytes.proofs.ByteLists.{Bytes, bytes_back, bytes_front}
pub use Rattle.mig_bytes.proofs.Joins.{bind_cases, no_bytes, only_first, passes_not, placed_faulty, placed_passes, same_faulty, then_faulty, then_passes}
pub use Rattle.mig_bytes.proofs.Said.{bytes_pass, said_passes}
pub use Rattle.mig_bytes.proofs.Sequences.{accepted_spelled, refused_stops, spelled_accepted, spelled_refused}
pub use Rattle.mig_bytes.proofs.Walks.{walk_end_reached}
pub use Rattle.mig_bytes.specs.Bytes.{AreBytes, padding_len}
unfoldable pub use Rattle.mig_bytes.specs.Fields.{le64}
pub use Rattle.mig_bytes.specs.Fields.{be32, be64, le16, le32}
pub use Rattle.mig_bytes.specs.Judged.{Judged, part, placed, plain_at, said_at, tried, ◌>>=◌}
pub use Rattle.mig_bytes.specs.Judged.Judged.{Faulty, Passes}
pub use Rattle.mig_bytes.specs.Sequences.{Spells, sequence_at}
pub use Rattle.mig_bytes.specs.Walk.{walk_end}
pub use Rattle.mig_bytes.specs.Walk.Reaches.{here, next as next_reached}
pub use Rattle.mig_headers.proofs.Chains.{chain_more, gone, none_of, not_last, scan_is}
pub use Rattle.mig_headers.proofs.ContextTexts.{in32}
pub use Rattle.mig_headers.proofs.FirstCauses.{Named, Names, ascends, is_named, join, rows_name}
pub use Rattle.mig_headers.proofs.FirstFaults.{neither_some}
pub use Rattle.mig_headers.proofs.RecordNumbers.{numbers_are_inverse}
unfoldable pub use Rattle.mig_headers.specs.Contexts.{after_entry, fault_at, scan}
pub use Rattle.mig_headers.specs.Contexts.{ChainTo, Scanned, entry_end, is_last, scan_at}
pub use Rattle.mig_headers.specs.FirstCauses.{IsEarlier, IsTriedFirst}
pub use Rattle.mig_headers.specs.Headers.{domain_rows, fault_of_domain, fault_of_image, fault_of_libxl, fault_of_marker, image_rows, is_from_legacy, kind_of_number, libxl_ident, marker_rows}
pub use Rattle.mig_headers.specs.CauseNumbers.{number_of_cause, number_of_legacy_cause}
pub use Rattle.mig_headers.specs.RecordTypes.{is_optional, pv, record_row_of, type_number, type_of_number, vcpu_limit, most_body}
pub use Rattle.mig_headers.specs.Rows.{first_fault}
pub use Rattle.mig_headers.specs.declared.fault.Cause.{Cause}
pub use Rattle.mig_headers.specs.declared.fault.Cause.TheVariants.{BadContext, BadEmulator, BadLength, BadPageType, BadPvInfo, BodyTooLong, EmulatorIndex, GdtEnts, Missing, OutOfOrder, P2mFrame, P2mStart, ParamIndex, PfnOutside, Pv32, TargetAbsent, TooManyFrames, TooManyPairs, TooManyRecords, Truncated, UnknownMandatory, Unsupported, VcpuFrame, VcpuId, WrongKind}
pub use Rattle.mig_headers.specs.declared.fault.ContextFault.{ContextFault}
pub use Rattle.mig_headers.specs.declared.fault.ContextFault.TheVariants.{HeaderSize, NoEnd, NoHeader, ShortEntry}
pub use Rattle.mig_headers.specs.declared.fault.Place.{Place}
pub use Rattle.mig_headers.specs.declared.fault.Place.TheVariants.{DomainHeader, ImageHeader, LibxlHeader, LibxlRecord as AtRecord, Record}
pub use Rattle.mig_headers.specs.declared.image_fault.ImageCause.{ImageCause}
pub use Rattle.mig_headers.specs.declared.image_fault.ImagePlace.{ImagePlace}
pub use Rattle.mig_headers.specs.declared.kind.Kind.{Kind}
pub use Rattle.mig_headers.specs.declared.kind.Kind.TheVariants.{Hvm, Pv}
pub use Rattle.mig_headers.specs.declared.legacy_fault.LegacyCause.{LegacyCause}
pub use Rattle.mig_headers.specs.declared.legacy_fault.LegacyCause.TheVariants.{BadContext as LegacyBadContext, BadPageType as LegacyBadPageType, BadToolstack, BatchTooLarge, TooManyPairs as LegacyTooManyPairs, WordHigh}
pub use Rattle.mig_headers.specs.declared.legacy_fault.LegacyPlace.{LegacyPlace}
pub use Rattle.mig_headers.specs.declared.record_type.RecordType.{RecordType}
pub use Rattle.mig_headers.specs.declared.record_type.RecordType.TheVariants.{End, PageData, StaticDataEnd, Verify, X86PvInfo, X86PvP2mFrames}
pub use Rattle.mig_pagetypes.specs.FrameWords.{word_has_data, word_pfn, word_type}
pub use Rattle.mig_pagetypes.specs.LegacyWords.{legacy_type}
pub use Rattle.mig_pagetypes.specs.Limits.{most_frames}
pub use Rattle.mig_pagetypes.specs.PageTypes.{all_types, level_of, number_of, type_of, type_or_none}
pub use Rattle.mig_pagetypes.specs.declared.page_type.PageType.{PageType}
pub use Rattle.mig_pagetypes.specs.declared.page_type.PageType.TheVariants.{Broken, L1Pinned, L1Tab, L2Pinned, L2Tab, L3Pinned, L3Tab, L4Pinned, L4Tab, Notab, Xalloc, Xtab}
pub use Rattle.mig_guest.proofs.PartOrder.{part_exact, part_total}
pub use Rattle.mig_guest.specs.Formed.{gdt_ents}
pub use Rattle.mig_guest.specs.Frames.{FrameMap, FrameOf, is_type_of}
pub use Rattle.mig_guest.specs.Guests.{GuestOf}
pub use Rattle.mig_guest.specs.Hosts.{HostOf, IsValid, HostFrame, most_width}
pub use Rattle.mig_guest.specs.Longs.{long_at}
pub use Rattle.mig_guest.specs.Order.{IsAbove, part_cmp}
pub use Rattle.mig_guest.specs.PartCodes.{code_number, code_of_number, row_of}
pub use Rattle.mig_guest.specs.PartKeys.{context_key, p2m_key, shared_key, vcpu_key}
pub use Rattle.mig_guest.specs.Parts.{PartMap}
unfoldable pub use Rattle.mig_guest.specs.Tables.{entry_of as table_entry_of}
pub use Rattle.mig_guest.specs.Tables.{entry, named_frame}
pub use Rattle.mig_guest.specs.declared.part_code.PartCode.{PartCode}
pub use Rattle.mig_guest.specs.declared.part_code.PartCode.TheVariants.{HvmContext, HvmParam, VcpuBasic, VcpuExtended, VcpuMsrs, VcpuXsave}
pub use Rattle.mig_guest.specs.declared.part_key.PartKey.{PartKey}
pub use Rattle.mig_guest.specs.declared.table.Entry.{Entry}
pub use Rattle.mig_guest.specs.declared.table.Entry.TheVariants.{Frame, Superpage}
pub use Rattle.mig_records.proofs.Places.{none_pass, place_is_first}
pub use Rattle.mig_records.specs.Faults.{count_rows, fault_of_count, fault_of_long, fault_of_words, type_allows}
pub use Rattle.mig_records.specs.Words.{data_len_of, first_place, first_word, has_reserved_type, is_outside, names_outside, words}
pub use Rattle.mig_order.specs.Order.{broken_rules, content_records, earlier_in, fault_of_type, is_of, late_static, static_records}
pub use Rattle.mig_records.proofs.PvLaws.{vcpu_rows}
pub use Rattle.mig_records.proofs.TableSpelled.{length_passes}
pub use Rattle.mig_records.specs.Layouts.{entry_count, entry_width, fault_of_entries, fault_of_key, front_width, layout}
pub use Rattle.mig_records.specs.PvBodies.{fault_of_p2m, fault_of_pv_info, fault_of_vcpu, is_vcpu, p2m_count}
pub use Rattle.mig_records.specs.Shapes.{fault_by_shape, fault_of_body, fault_of_scan, has_shape, parts_of_body, shape_of}
pub use Rattle.mig_records.specs.declared.layout.Layout.{Layout}
pub use Rattle.mig_records.specs.declared.shape.Shape.{Shape}
pub use Rattle.mig_records.specs.declared.shape.Shape.TheVariants.{Other, Single, Table}
pub use Rattle.mig_policy.specs.PairMaps.{PairMap, pairs_in, put_pairs, text_of_map}
pub use Rattle.mig_pvtables.proofs.HvmGuests.{hvm_fault}
pub use Rattle.mig_pvtables.proofs.PvGuests.{counted}
unfoldable pub use Rattle.mig_pvtables.specs.Faults.{field_numbers, slots}
pub use Rattle.mig_pvtables.specs.Faults.{fault_of_guest, faults_for, find_entry, find_field, find_p2m, find_slot, first_cause, first_some, fits_field, is_absent, is_misplaced, is_needed, is_notab, is_root, is_this, misfits, type_at}
pub use Rattle.mig_pvtables.specs.P2mFrames.{count_in, listed}
pub use Rattle.mig_pvtables.specs.Tables.{fault_of_page_table, is_superpage, names_above}
pub use Rattle.mig_pvtables.specs.VcpuContexts.{field_value, frame_of_field, is_marked, is_used}
pub use Rattle.mig_restore_form.proofs.Batches.{as_content, behind_list, entries_in_place, front_list, good_list, list_stage}
pub use Rattle.mig_restore_form.proofs.Bodies.{shaped_code}
pub use Rattle.mig_restore_form.proofs.Converse.{goes, going, headers_go, image_header_goes}
pub use Rattle.mig_restore_form.proofs.Laws.{behind_kind, behind_marker, behind_version, finds, image_header, opened as stream_opened}
unfoldable pub use Rattle.mig_restore_form.specs.Judging.{fault_of_fields}
pub use Rattle.mig_restore_form.specs.Judging.{Before, Opening, before, fault_of_data, fault_of_head, fault_of_level, fault_of_number, fault_of_page, lists_of, most_records, next_at, opening_of, type_in_word}
pub use Rattle.mig_restore_form.specs.Mean.{type_in_guest, sent}
pub use Rattle.mig_restore_form.specs.Record.{Content, FrameEntry, StreamRecord, is_ended, is_verified, placed_content}
pub use Rattle.mig_restore_form.specs.Spelled.{Accepted, Follows}
unfoldable pub use Rattle.mig_restore_form.specs.Stream.{image_at, opening_at}
pub use Rattle.mig_restore_form.specs.Stream.{ImageOf, IsRefused, image_of, kind_at, marker_at, placed_next, records_at, version_at}
pub use Rattle.mig_libxl_form.proofs.Forms.{behind_header}
pub use Rattle.mig_libxl_form.proofs.Laws.{Ident, header_goes, ident_of, is_header, libxl_goes}
pub use Rattle.mig_libxl_form.proofs.Records.{behind_content, behind_head as libxl_behind_head, found, not_ended as libxl_not_ended, record_goes}
pub use Rattle.mig_libxl_form.specs.Content.{LibxlContent, LibxlRecord}
pub use Rattle.mig_libxl_form.specs.Among.{is_libxl_ended}
pub use Rattle.mig_libxl_form.specs.Content.LibxlContent.{Context, Image, Nothing as LibxlNothing, Pairs}
pub use Rattle.mig_libxl_form.specs.Emulators.{EmulatorsOf, emulators_of, spelled_with, store_at}
unfoldable pub use Rattle.mig_libxl_form.specs.Judging.{fault_of_context, fault_of_libxl_fields, fault_of_order, fault_of_pairs, libxl_record_at}
pub use Rattle.mig_libxl_form.specs.Judging.{allows_length, body_of_type, context_at, emulator_key, fault_of_libxl_head, field_rows, inner_at, is_pv, is_pv_kind, libxl_content_at, libxl_head_at, order_rows, pairs_at, skipped_at}
pub use Rattle.mig_libxl_form.specs.Spelled.{AcceptedStream, FollowsLibxl}
unfoldable pub use Rattle.mig_libxl_form.specs.Stream.{stream_at, wrapped_at}
pub use Rattle.mig_libxl_form.specs.Stream.{IsStreamRefused, bare_at, header_at, libxl_records_at}
pub use Rattle.mig_libxl_form.specs.Stream.StreamOf.{Bare, Wrapped}
pub use Rattle.mig_legacy.proofs.ChunkTexts.{finds as legacy_finds, goes as legacy_goes, not_ended as legacy_not_ended}
pub use Rattle.mig_legacy.proofs.Entries.{faultless_first, faulty_first, nothing_left}
pub use Rattle.mig_legacy.proofs.Fields.{first32}
pub use Rattle.mig_legacy.proofs.NameForms.{name_passes, name_spelled}
pub use Rattle.mig_legacy.proofs.Spelling.{behind_all, fault_of, fine as fine_entry, len_is}
pub use Rattle.mig_legacy.proofs.Streams.{behind_chunks, behind_start, behind_tail, stream_of}
pub use Rattle.mig_legacy.proofs.TailTexts.{some_device, start_goes, start_passes, tail_goes, tail_passes}
pub use Rattle.mig_legacy.specs.Batches.{fault_of_batch, is_high, is_reserved}
pub use Rattle.mig_legacy.specs.Chunks.{negative, negative_causes}
unfoldable pub use Rattle.mig_legacy.specs.Judged.{entry_fault, toolstack_fault}
pub use Rattle.mig_legacy.specs.Judged.{entries_fault, entry_len, is_name, name_at, name_in, name_len}
pub use Rattle.mig_legacy.specs.LegacyForm.{chunk_form, context_fault, device_form, pairs_of_toolstack, place_causes, signature, start_form, tail_form}
pub use Rattle.mig_legacy.specs.Legacy.{LegacyChunk, has_value, image_records, is_legacy_ended, store_key}
pub use Rattle.mig_legacy.specs.Spelled.{AcceptedLegacy, FollowsLegacy, IsStart}
unfoldable pub use Rattle.mig_legacy.specs.Stream.{device_at, legacy_at}
pub use Rattle.mig_legacy.specs.Stream.{IsLegacyRefused, chunks_at, placed_chunk}
pub use Rattle.mig_legacy.specs.Toolstack.{IsName, IsPhysmapHead, Physmap, name_bytes}
pub use Rattle.mig_legacy.specs.declared.chunk.ChunkKind.{ChunkKind}
pub use Rattle.mig_image.proofs.Chains.{put_all}
pub use Rattle.mig_image.proofs.Frames.{frame_entries, frames_back as frames_said, frames_valid}
pub use Rattle.mig_host.proofs.HostsMade.{valid_empty}
pub use Rattle.mig_image.proofs.ImageBack.{head_fine, image_back}
pub use Rattle.mig_image.proofs.ImageReads.{image_reads}
pub use Rattle.mig_host.proofs.InOrder.{all_there, found_passes, no_entries, some_entry}
pub use Rattle.mig_image.proofs.Parts.{part_entries, parts_back as parts_said, parts_valid, with_parts}
unfoldable pub use Rattle.mig_image.specs.GuestImage.{host_head, guest_image}
pub use Rattle.mig_image.specs.GuestImage.{IsGuestImageUpTo, frame_text, part_text}
pub use Rattle.mig_image.specs.declared.version.GuestImageVersion.{GuestImageVersion}
pub use Rattle.mig_guest.specs.Hosts.{HostFrame, most_width}
pub use Rattle.mig_guest.specs.Limits.{most_gdt_entries, most_pairs}
pub use Rattle.mig_image.specs.GuestImageParts.{code_allows, code_fits, has_frame_from, has_part_from, head_type_number, head_version, opened}
unfoldable pub use Rattle.mig_image.specs.GuestImageForm.{guest_image_form}
pub use Rattle.mig_image.specs.GuestImageForm.{behind_frames, behind_head, count_form, frames_form, host_at, host_frame_form, host_head_causes, host_head_form, host_part_form, host_parts_form}
pub use Rattle.mig_refusals.specs.LegacyToolstack.{EntryWrong, FieldWrong, PhysmapsTo}
pub use Rattle.mig_refusals.specs.Libxc.{AnswersFirstCause, BodyHas, Breaks, ContextHas, DomainHas, EntriesTo, EntryHas, FrontHas, GuestHas, HeadHas, HeaderHas, IsFirstCause, IsOpen, IsTriedBefore, LengthHas, LibxcCausesStand, MarkerHas, PageHas, ParamsHas, RefusedLibxc, WordsHas, coded_form, image_body_form, image_entry_form, image_page_form, image_record_form, kind_form, marker_form, next_form, pages_form, typed_form, version_form}
pub use Rattle.mig_refusals.specs.LibxcPv.{InfoHas, IsUsedField, P2mHas, PvGuestHas, TableHas, TakesType, VcpuHas, rank_of}
pub use Rattle.mig_refusals.specs.Refusals.{AreAllAcceptedOrRefused, AreJudged, HasOneRefusal, IsAcceptedOrRefused, IsNeverBoth}
pub use Rattle.mig_bytes_form.proofs.Joined.{asked_is, begins_paired, begins_then, bytes_spelled, each_is, first_refused, gives_begins, paired_begins, placed_refused, refused_retold, refused_steps, refused_then, retold_begins, steps_refused, then_begins, then_is, then_refused, whole_begins}
pub use Rattle.mig_bytes_form.proofs.Tests.{append_named, computed_is, none_is}
pub use Rattle.mig_bytes_form.proofs.Verdicts.{begins_passes, passes_is_spelled, refused_so, refused_where}
pub use Rattle.mig_bytes_form.specs.Form.FormOf.{Gives}
pub use Rattle.mig_bytes_form.specs.Tests.{NoneHolds, Test, computed, first_named, is_ascending}
pub use Rattle.mig_guest.proofs.PartRows.{number_found, numbered}
pub use Rattle.mig_host_laws.proofs.Rows.{has_needed, is_missing, is_other, needed, notab_is, passes_some, same_pfn, some_passes}
pub use Rattle.mig_refusals.specs.ImageFile.{ImageCausesAscend, ImageTestsSay, IsCodeOf, IsNoType, PlaceIsOfPart, RefusedGuestImage, RefusedInPart, all_frames, count_and_parts, head_and_frames, up_to_count}
pub use Rattle.mig_refusals.specs.Legacy.{ComputedCausesStand, LegacyCausesAscend, LegacyContextHas, LegacyTestsSay, RefusedLegacy, WordsHave, word_place}
pub use Rattle.mig_refusals.specs.LibxcPv.PvGuestHas.{absent, field_misfits, listed_twice, many_frames, no_p2m, no_shared, no_vcpu, other_type}
pub use Rattle.mig_refusals.specs.Refusals.IsAcceptedOrRefused.{accepted, refused}
pub use Rattle.mig_refusals.specs.Stream.{AreMerged, BeginsAsLibxl, IsOpenWrapper, RefusedStream, StoresAreMerged, WrapperCausesAscend, WrapperTestsSay, behind_record_head, context_causes, head_causes, header_form, pairs_causes, pairs_with, record_body_form, record_form, record_head_form}
