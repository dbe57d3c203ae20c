-- Names that many proofs of this crate use.
pub use Rattle.std.proofs.Common.{Bool, IfSome, IsSome, List, None, Option, Some, [], ap, arith, cond, false, get_or, inl, inr, is_some, le-leb, length, length-append, nat_lt, not, refl, subst, sym, take, true, ℕ, ◌%◌, ◌*◌, ◌++◌, ◌+◌, ◌-◌, ◌/◌, ◌<◌, ◌^◌, ◌↔◌, ◌∙◌, ◌∷◌, ◌≡◌, ◌≤◌}
pub use Rattle.std.proofs.lemmas.Bool.{and_parts, cases_order, eq-eqb, eqb-true, le-ltb, leb-true, lt-ltb, ltb-false, ltb-true, ne_eqb}
pub use Rattle.std.proofs.lemmas.List.Elements.{All-append, All-head, All-replicate, All-tail, All-take, recursion_from_All}
pub use Rattle.std.proofs.lemmas.Option.{cond_some}
pub use Rattle.std.specs.Cmp.{nat_cmp_total}
pub use Rattle.std.specs.FinMap.{entries_sorted, get-entries, nat_cmp-IsAntisymmetric}
pub use Rattle.std.specs.List.{All, range_with_len}
pub use Rattle.std.specs.Option.{option_map, option_or}
pub use Rattle.std.specs.Prelude.{Err, Ok, Result, find, nat_le, option_and_then, replicate, unwrap_or, ◌&&◌, ◌==◌, ◌||◌}
pub use Rattle.mig_bytes.proofs.ByteLists.{Bytes, long_below}
pub use Rattle.mig_bytes.specs.Bytes.{AreBytes}
pub use Rattle.mig_guest.proofs.Longs.{length_longs, same_longs}
pub use Rattle.mig_guest.proofs.PartOrder.{part_exact, part_total}
pub use Rattle.mig_guest.proofs.PartRows.{changed_part, hvm_frame, no_entries, of_part, one_code, raw, same_len}
pub use Rattle.mig_guest.specs.Formed.{IsContent, IsCut, IsFormed, IsGuestFrame, IsInside, IsPart, IsRawContent, IsTop, gdt_ents, is_policy, width_of}
pub use Rattle.mig_guest.specs.Frames.{FrameMap, FrameOf, IsFew, IsFrame, is_type_of}
pub use Rattle.mig_guest.specs.Guests.{GuestOf}
pub use Rattle.mig_guest.specs.Hosts.{HostFrame, HostFrames, HostOf, IsHostFrame, IsHostPart, IsValid, pfn_in}
pub use Rattle.mig_guest.specs.Longs.{each_long, long_at, longs}
pub use Rattle.mig_guest.specs.PartCodes.{code_number, row_of}
pub use Rattle.mig_guest.specs.PartKeys.{context_key, p2m_key, shared_key, vcpu_key}
pub use Rattle.mig_guest.specs.Parts.{FitsPolicy, PartMap, parts_after}
pub use Rattle.mig_guest.specs.Tables.{EachEntry, IsWithin, blanked_table, entry, entry_of}
pub use Rattle.mig_guest.specs.declared.part_code.PartCode.{PartCode}
pub use Rattle.mig_guest.specs.declared.part_code.PartCode.TheVariants.{EmulatorPairs, HvmContext, P2mFrames, VcpuBasic}
pub use Rattle.mig_guest.specs.declared.part_key.PartKey.{PartKey}
pub use Rattle.mig_guest.specs.declared.table.Entry.{Entry}
pub use Rattle.mig_guest.specs.declared.table.Entry.TheVariants.{Blank, Frame, NotPresent, Superpage}
pub use Rattle.mig_guest.specs.Limits.{most_gdt_entries}
pub use Rattle.mig_headers.specs.Contexts.{cut_at, scan}
pub use Rattle.mig_headers.specs.declared.fault.ContextFault.{ContextFault}
pub use Rattle.mig_headers.specs.declared.kind.Kind.{Kind}
pub use Rattle.mig_headers.specs.declared.kind.Kind.TheVariants.{Hvm, Pv}
pub use Rattle.mig_headers.specs.RecordTypes.{most_body}
pub use Rattle.mig_host_view.specs.Localised.{localised, localised_frame, localised_of, localised_page, renamed, renamed_frame, renamed_page, renamed_part}
pub use Rattle.mig_host_view.specs.Normalised.{cut_by, normalised, normalised_of, part_seen}
pub use Rattle.mig_host_view.specs.RenamedContexts.{field_named, renamed_context, value_renamed}
pub use Rattle.mig_host_view.specs.Sound.{AreThere, CanBeSeen, IsSound, absent, fault_in, find_gdt, machine_type, misnames, needed_keys, unsound_rows, unsoundness}
pub use Rattle.mig_host_view.specs.View.{guest_in, hvm_view, top_of, view, without_machine}
pub use Rattle.mig_pagetypes.specs.Limits.{pfn_limit, top_limit}
pub use Rattle.mig_pagetypes.specs.PageTypes.{level_of, type_has_data}
pub use Rattle.mig_pagetypes.specs.declared.page_type.PageType.{PageType}
pub use Rattle.mig_pvtables.proofs.BlankBytesKept.{context_of_bytes, kind_bytes, longs_bytes, table_of_bytes}
pub use Rattle.mig_pvtables.proofs.BlankSays.{at_field, blanked_at, field_there, low_says, place_field}
pub use Rattle.mig_pvtables.proofs.EachValue.{count_each, each_each, each_same, from_each, len_each, same_each, some_each, stays_each, to_each}
pub use Rattle.mig_pvtables.proofs.LongSteps.{ChangedWhere, OneMore, all_changed, each_twice, none_changed, one_changed, one_more_below, one_stays, still}
pub use Rattle.mig_pvtables.proofs.PvGuests.{no_entry, no_p2m, none_misses, pv_complete, pv_whole}
pub use Rattle.mig_pvtables.proofs.Renamed.{EntryGoesBack, TableGoesBack, by_frames, fits_back, renamed_long, renamed_says, said_anew, table_back}
pub use Rattle.mig_pvtables.proofs.SameShape.{entries_changed, kept_p2m, mapped_holds, repaged_is_frame, types_kept}
pub use Rattle.mig_pvtables.proofs.Searches.{all_none, cond_none, find_in_range, first_found, is_there, none_mapped, overwritten}
pub use Rattle.mig_pvtables.proofs.Walks.{IsSoBehind, contexts_start, large_in}
pub use Rattle.mig_pvtables.specs.BadEntries.{NamesKnown, is_unknown}
pub use Rattle.mig_pvtables.specs.Blank.{IsOfBytes, blank, blank_of, blanked_frame, blanked_page, blanked_part, each_value, table_changed}
pub use Rattle.mig_pvtables.specs.BlankSteps.{blanked_code, only, where_listed, with_table_changed, with_zero_page, written_at, written_where_listed}
pub use Rattle.mig_pvtables.specs.Faults.{find_entry, find_in_contexts, find_p2m, first_cause, first_some, fits_field, type_at}
pub use Rattle.mig_pvtables.specs.P2mFrames.{count_in, listed, listed_in, place_in, place_of}
pub use Rattle.mig_pvtables.specs.P2mPages.{p2m_page}
pub use Rattle.mig_pvtables.specs.Renaming.{GoesBack, NamesFit, entry_named, name_for, renamed_table}
pub use Rattle.mig_pvtables.specs.Tables.{is_superpage}
pub use Rattle.mig_pvtables.specs.VcpuContexts.{Usage, blanked_context, blanked_shared, field_at, field_of_frame, field_place, field_value, frame_of_field, is_marked, is_used, is_used_somewhere}
pub use Rattle.mig_pvtables.specs.Whole.{IsWhole}
pub use Rattle.mig_pvtables.specs.WholePv.{IsCompletePv, IsEmptyRange}
pub use Rattle.mig_pagetypes.specs.declared.page_type.PageType.TheVariants.{Notab, Xtab}
pub use Rattle.mig_pvtables.proofs.BlankShape.{place_listed, table_unlisted}
pub use Rattle.mig_pvtables.proofs.BlankWhole.{fit_there, unfit, whole_blank}
pub use Rattle.mig_pvtables.proofs.HvmGuests.{hvm_blank, hvm_complete, hvm_whole}
