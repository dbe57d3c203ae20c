-- Names that many proofs of this crate use.
pub use Rattle.std.proofs.Common.{Bool, Bor, IfSome, IsSome, List, None, Option, Some, [], ap, append-nil, append_assoc, arith, cond, drop, drop-drop, false, get_or, inl, inr, is_none, is_some, le-leb, length, lit<, map, nat_lt, not, refl, subst, suc, sym, take, true, zero, ℕ, ◌%◌, ◌*◌, ◌++◌, ◌+◌, ◌-◌, ◌/◌, ◌<◌, ◌^◌, ◌↔◌, ◌∙◌, ◌∷◌, ◌≡◌, ◌≢◌, ◌≤◌}
pub use Rattle.std.proofs.lemmas.Bool.{and_from, and_parts, cases_eq, cases_lt, cond-true, cond_both, eq-eqb, eqb-true, false_from_ne_true, le-ltb, leb-true, lt-ltb, ltb-false, ltb-true, ne_eqb, or_from, or_parts}
pub use Rattle.std.proofs.lemmas.List.{drop_all, length-map, length-replicate}
pub use Rattle.std.proofs.lemmas.List.Elements.{All-append, All-cons, All-head, All-nil, All-replicate, All-tail, recursion_from_All}
pub use Rattle.std.proofs.lemmas.List.Folds.{list_any_at}
pub use Rattle.std.proofs.lemmas.List.FromFn.{get_or-range_with_len, length-range_with_len}
pub use Rattle.std.proofs.lemmas.Option.{cond_some}
pub use Rattle.std.specs.Cmp.{IsTotalOrder, nat_cmp_total}
pub use Rattle.std.specs.FinMap.{FinMap, IsAntisymmetric, entries_sorted, get-entries, get-from_entries, get-insert, nat_cmp-IsAntisymmetric, same_map}
pub use Rattle.std.specs.Int.{byte_at, bytes_low_first}
pub use Rattle.std.specs.List.{All, AllByRecursion, list_any, range_with_len}
pub use Rattle.std.specs.Option.{MatchOption, option_map, option_or}
pub use Rattle.std.specs.Ordering.{eq_by_cmp, is_lt, nat_cmp, ordering_reverse}
pub use Rattle.std.specs.Prelude.{find, nat_le, option_and_then, replicate, unwrap_or, ⊤, ◌&&◌, ◌==◌, ◌||◌}
pub use Rattle.std.specs.declared.cmp.Ordering.{Ordering}
pub use Rattle.byteorder.specs.Endian.{little_bytes}
pub use Rattle.mig_bytes.proofs.ByteLists.{Bytes, bytes_from, long_below}
pub use Rattle.mig_bytes.specs.Bytes.{AreBytes}
pub use Rattle.mig_bytes.specs.Fields.{le64, with_field}
pub use Rattle.mig_guest.proofs.Found.{all_found, first_passes, insert_holds, none_passes}
pub use Rattle.mig_guest.proofs.KeyedMaps.{entries_shown, find_seen, insert_len, is_some-mapped, kept_shown, shown, tied}
pub use Rattle.mig_guest.proofs.Longs.{each_stays, length_longs, long_of_longs, longs_back, middle_zeroed, put_long, same_longs}
pub use Rattle.mig_guest.proofs.PartOrder.{part_exact, part_total}
pub use Rattle.mig_guest.proofs.PartRows.{changed_part, of_part, sole}
pub use Rattle.mig_guest.specs.Formed.{HasNoEmulators, IsContent, IsFormed, IsGuestFrame, IsPart, gdt_ents, width_of}
pub use Rattle.mig_guest.specs.Frames.{FrameMap, FrameOf, IsFew, IsFrame, entries_from, is_type_of}
pub use Rattle.mig_guest.specs.Guests.{GuestOf}
pub use Rattle.mig_guest.specs.Longs.{each_long, long_at, longs}
pub use Rattle.mig_guest.specs.Order.{part_cmp}
pub use Rattle.mig_guest.specs.PartCodes.{code_number, row_of}
pub use Rattle.mig_guest.specs.PartKeys.{context_key, p2m_key, shared_key, vcpu_key}
pub use Rattle.mig_guest.specs.Parts.{Part, PartMap, parts_after, parts_of}
pub use Rattle.mig_guest.specs.Tables.{EachEntry, IsWithin, blanked_table, entry, is_blank_slot, is_large, is_present, named_frame}
pub use Rattle.mig_guest.specs.declared.part_code.PartCode.{PartCode}
pub use Rattle.mig_guest.specs.declared.part_code.PartCode.TheVariants.{P2mFrames, SharedInfo, VcpuBasic}
pub use Rattle.mig_guest.specs.declared.part_key.PartKey.{PartKey}
pub use Rattle.mig_guest.specs.declared.table.Entry.{Entry}
pub use Rattle.mig_guest.specs.declared.table.Entry.TheVariants.{Blank, Frame, NotPresent, Superpage}
pub use Rattle.mig_guest.specs.Limits.{most_gdt_entries}
pub use Rattle.mig_headers.proofs.FirstFaults.{both_none, neither_some}
pub use Rattle.mig_headers.specs.declared.fault.Cause.TheVariants.{Missing, TooManyFrames}
pub use Rattle.mig_headers.specs.declared.kind.Kind.{Kind}
pub use Rattle.mig_headers.specs.declared.kind.Kind.TheVariants.{Hvm, Pv}
pub use Rattle.mig_headers.specs.RecordTypes.{most_policy_entries}
pub use Rattle.mig_pagetypes.specs.Limits.{most_frames, pfn_limit}
pub use Rattle.mig_pagetypes.specs.PageTypes.{level_of, type_has_data}
pub use Rattle.mig_pagetypes.specs.declared.page_type.PageType.{PageType}
pub use Rattle.mig_pagetypes.specs.declared.page_type.PageType.TheVariants.{L1Tab, L2Tab, L3Tab, L4Pinned, Notab}
pub use Rattle.mig_pvtables.specs.BadEntries.{HasSuperpage, HasUnknown, IsFirstSlot, NamesKnown, bad_entry, first_unknown, is_unknown}
pub use Rattle.mig_pvtables.specs.Blank.{IsOfBytes, blank, blank_of, blanked_frame, blanked_page, blanked_part, each_value, table_changed, zero_page}
pub use Rattle.mig_pvtables.specs.BlankSteps.{blanked_below, blanked_code, blanked_up_to, is_reached, only, where_listed, with_other_page, with_table_changed, with_zero_page, written_at, written_from, written_where_listed}
pub use Rattle.mig_pvtables.specs.Faults.{fault_of_guest, faults_for, field_numbers, find_entry, find_p2m, find_slot, first_cause, first_some, fits_field, is_absent, find_misplaced, is_misplaced, is_needed, is_notab, is_this, misses, type_at}
pub use Rattle.mig_pvtables.specs.P2mFrames.{count_in, listed, listed_in, place_of}
pub use Rattle.mig_pvtables.specs.Renaming.{name_for, named_anew, normalised_table, with_name}
pub use Rattle.mig_pvtables.specs.Tables.{fault_of_page_table, first_outside, first_superpage, is_superpage, names_above, with_frame}
pub use Rattle.mig_pvtables.specs.VcpuContexts.{Usage, blanked_context, blanked_shared, blanked_value, field_at, field_place, field_value, frame_of_field, is_marked, is_used, value_blanked}
pub use Rattle.mig_pvtables.specs.Whole.{IsWhole}
pub use Rattle.mig_pvtables.specs.WholePv.{AreP2mFrames, FieldsFit, IsCompletePv, IsEmptyRange, IsWholePv}
