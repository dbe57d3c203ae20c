-- Names that many proofs of this crate use.
pub use Rattle.std.proofs.Common.{Bool, Bor, Err, IfNone, IfSome, IsSome, List, None, Ok, OnErr, OnOk, Option, Result, Some, [], ap, append-nil, append_assoc, arith, cond, false, filter, inl, inr, is_some, length, map, max, nat_eq, nat_lt, not, option_and_then, refl, replicate, subst, sym, true, ℕ, ◌*◌, ◌++◌, ◌+◌, ◌-◌, ◌/◌, ◌<◌, ◌^◌, ◌∙◌, ◌∷◌, ◌≡◌, ◌≢◌, ◌≤◌, ◌⊎◌}
pub use Rattle.std.proofs.lemmas.Bool.{and_parts, cases_eq, cases_lt, cases_order, eq-eqb, eqb-false, eqb-true, false_from_ne_true, le-ltb, lt-ltb, ne_eqb, not-false, or_from, or_left, or_parts, or_right, true≢false}
pub use Rattle.std.proofs.lemmas.List.Elements.{All-head, All-tail, All-weaker, recursion_from_All}
pub use Rattle.std.proofs.lemmas.Option.{none-some, same_Some}
pub use Rattle.std.specs.Cmp.{IsTotalOrder, nat_cmp_total, unsigned_tied}
pub use Rattle.std.specs.FinMap.{FinMap, IsAntisymmetric, empty_of_len, entries_sorted, find, get-empty, get-entries, is_sorted, len-empty, len-entries, len-insert, len-remove, nat_cmp-IsAntisymmetric, put, same_map}
pub use Rattle.std.specs.FinMap.Entries.{below_all, by_order}
pub use Rattle.std.specs.List.{All, AllByRecursion, list_any}
pub use Rattle.std.specs.Option.{option_copied, option_map}
pub use Rattle.std.specs.Ordering.{eq_by_cmp, is_eq, is_lt, nat_cmp, ordering_reverse}
pub use Rattle.std.specs.Prelude.{IfOk, T, unwrap_or, ◌&&◌, ◌==◌, ◌||◌}
pub use Rattle.std.specs.declared.cmp.Ordering.{Ordering}
pub use Rattle.mig_bytes.proofs.NumberMaps.{inserted, inserted_other, is_inserted, is_removed, removed, removed_other}
pub use Rattle.mig_guest.proofs.Found.{all_found, insert_holds, remove_holds}
pub use Rattle.mig_guest.proofs.KeyedMaps.{insert_len, is_some-mapped, tied}
pub use Rattle.mig_guest.proofs.PartCursor.{both_of, less, true_of}
pub use Rattle.mig_guest.proofs.PartOrder.{part_exact, part_total}
pub use Rattle.mig_guest.proofs.PartRows.{host_part, one_code, with_bytes}
pub use Rattle.mig_guest.specs.Formed.{IsInside, IsPart, IsRawContent, IsTop, width_of}
pub use Rattle.mig_guest.specs.Frames.{FrameMap, FrameOf, IsFew, IsFrame, entries_from, framed, is_type_of}
pub use Rattle.mig_guest.specs.Guests.{GuestOf}
pub use Rattle.mig_guest.specs.Hosts.{HostFrame, HostFrames, HostOf, IsHostFrame, IsHostPart, IsOneToOne, IsValid, most_width, pfn_in}
pub use Rattle.mig_guest.specs.Order.{part_cmp}
pub use Rattle.mig_guest.specs.PartCodes.{code_number, is_fixed, row_of}
pub use Rattle.mig_guest.specs.PartKeys.{context_key, p2m_key, shared_key}
pub use Rattle.mig_guest.specs.Parts.{FitsPolicy, PartMap, parts_behind, parts_of}
pub use Rattle.mig_guest.specs.declared.part_code.PartCode.{PartCode}
pub use Rattle.mig_guest.specs.declared.part_key.PartKey.{PartKey}
pub use Rattle.mig_headers.specs.declared.kind.Kind.{Kind}
pub use Rattle.mig_headers.specs.declared.kind.Kind.TheVariants.{Hvm, Pv}
pub use Rattle.mig_headers.specs.RecordTypes.{most_policy_entries}
pub use Rattle.mig_host.specs.Changes.{exchanged, put_or_stay, raw_page_at, retyped, without_frame}
pub use Rattle.mig_host.specs.HostView.{AreBelowLimit, AreInverse, AreMatched, HostAndSpare, IsMade, MachineMap, MachinesAndSpare, host_seen, machine_in, pfn_of_machine_in, put_frame, put_part_in, with_machine, with_machines}
pub use Rattle.mig_host.specs.Hosted.{IsBaseOutside, with_machines_from, hosted, hosted_width, least_width, mfn_in, rank_in}
pub use Rattle.mig_host_view.proofs.SoundRows.{sound_is_faultless}
pub use Rattle.mig_host_view.specs.Localised.{localised, localised_frame, localised_of, renamed_part}
pub use Rattle.mig_host_view.specs.Normalised.{cut_by, normalised, part_seen}
pub use Rattle.mig_host_view.specs.Sound.{CanBeSeen, IsSound, unsound_rows, unsoundness}
pub use Rattle.mig_host_view.specs.View.{guest_in, hvm_view, top_of, view, without_machine}
pub use Rattle.mig_pagetypes.specs.Limits.{machine_limit, most_frames, pfn_limit, top_limit}
pub use Rattle.mig_pagetypes.specs.PageTypes.{type_has_data}
pub use Rattle.mig_pagetypes.specs.declared.page_type.PageType.{PageType}
pub use Rattle.mig_pagetypes.specs.declared.page_type.PageType.TheVariants.{Notab, Xtab}
pub use Rattle.mig_pvtables.proofs.EachValue.{count_each, each_each, each_same, entries_each, from_each, get_each, shown, to_each}
pub use Rattle.mig_pvtables.specs.Blank.{IsOfBytes, blank, each_value}
pub use Rattle.mig_pvtables.specs.P2mFrames.{count_in, listed}
pub use Rattle.mig_pvtables.specs.Whole.{IsWhole}
pub use Rattle.mig_guest.proofs.NextEntries.{from_zero, next_entry}
pub use Rattle.mig_guest.specs.declared.part_code.PartCode.TheVariants.{EmulatorPairs, HvmContext, P2mFrames, SharedInfo, VcpuBasic}
pub use Rattle.mig_host_view.proofs.GuestsBack.{guest_back, parts_stay}
pub use Rattle.mig_host_view.proofs.ViewedBytes.{normalised_bytes, seen_bytes}
pub use Rattle.std.proofs.lemmas.List.{drop_all, length-map, length-replicate, map-append, nil_from_length}
