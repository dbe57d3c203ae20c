-- Names that many proofs of this crate use.
pub use Rattle.std.proofs.Common.{Bool, Global, IfNone, IfSome, IsSome, List, MutBor, None, Option, Some, [], ap, append-nil, append_assoc, arith, bit_and, bit_or, cond, drop, drop-drop, false, filter, get_or, inl, inr, is_some, le-leb, length, length-append, length-drop, lit<, map, nat_eq, nat_le, not, refl, rules, slice_set, subst, suc, sym, take, true, w64, zero, ℕ, ◌%◌, ◌*◌, ◌++◌, ◌+◌, ◌-◌, ◌/◌, ◌<◌, ◌^◌, ◌∙◌, ◌∷◌, ◌≡◌, ◌≢◌, ◌≤◌}
pub use Rattle.std.proofs.lemmas.Bool.{and_parts, and_right, cases_lt, eq-eqb, eqb-true, le-ltb, leb-true, lt-ltb, ltb-true}
pub use Rattle.std.proofs.lemmas.Cmp.{eq_by_cmp_equiv, nat_cmp_total, on_total, ranked, then_total, tied_itself}
pub use Rattle.std.proofs.lemmas.Grind.{common_steps}
pub use Rattle.std.proofs.lemmas.List.Elements.{All-cons, All-contains, All-filter, All-head, All-nil, All-tail, Contains-append_right, filter_agree, filter_passes}
pub use Rattle.std.specs.Cmp.{IsTotalOrder}
pub use Rattle.std.specs.FinMap.{FinMap, IsAntisymmetric, entries-from_sorted, find, get-from_entries, get-from_sorted, get-insert, get-retain_keys, is_sorted, len-insert, nat_cmp-IsAntisymmetric, same_map}
pub use Rattle.std.specs.FinMap.Entries.{below_all, find-where_key, is_sorted-where_key, where_key}
pub use Rattle.std.specs.List.{All, AllByRecursion, flat_map, range_with_len}
pub use Rattle.std.specs.Map.{keys_of, lookup}
pub use Rattle.std.specs.Option.{option_and_then, option_copied, option_copied_mut, option_map, option_or, unwrap_or}
pub use Rattle.std.specs.Ordering.{eq_by_cmp, is_eq, is_le, is_lt, nat_cmp, ordering_then}
pub use Rattle.std.specs.Prelude.{T, max, nat_lt, replicate, ◌&&◌, ◌==◌, ◌||◌}
pub use Rattle.std.specs.declared.cmp.Ordering.{Ordering}
pub use Rattle.std.specs.declared.cmp.Ordering.TheVariants.{Equal, Greater, Less}
pub use Rattle.mig_guest.specs.Formed.{AreParts, HasNoEmulators, IsContent, IsFormed, IsGuestFrame, IsInside, IsPart, IsRawContent, IsRowPart, IsTop, is_emulator_code, is_policy, width_of}
pub use Rattle.mig_guest.specs.Frames.{FrameMap, FrameOf, IsFrame, NextEntry, entries_from, framed, is_hvm_type, is_type_of}
pub use Rattle.mig_guest.specs.Guests.{GuestOf}
pub use Rattle.mig_guest.specs.Order.{IsAbove, part_cmp}
pub use Rattle.mig_guest.specs.Parts.{FitsPolicy, Part, PartMap, parts_after, parts_behind, parts_of, parts_seen, put_part, put_parts, replace_code}
pub use Rattle.mig_guest.specs.declared.part_key.PartKey.{PartKey}
pub use Rattle.mig_headers.specs.RecordTypes.{most_policy_entries, vcpu_limit}
pub use Rattle.mig_guest.specs.Changes.{IsBelow, put_pfn, without_pfn}
pub use Rattle.mig_guest.specs.Hosts.{HostFrame, HostFrames, IsHostPart, pfn_in}
pub use Rattle.mig_guest.specs.PartCodes.{code_number, code_of_number, part_codes, row_of, small_number}
pub use Rattle.mig_guest.specs.Pfns.{Pfns, all_below, joined, members, no_pfns, pfns_of_words, size, with_pfn}
pub use Rattle.mig_guest.specs.Tables.{EachEntry, IsWithin, entry}
pub use Rattle.mig_guest.specs.declared.part_code.PartCode.{PartCode}
pub use Rattle.mig_guest.specs.declared.table.Entry.{Entry}
pub use Rattle.mig_headers.specs.declared.kind.Kind.{Kind}
pub use Rattle.mig_headers.specs.declared.kind.Kind.TheVariants.{Hvm, Pv}
pub use Rattle.mig_pagetypes.specs.PageTypes.{level_of}
pub use Rattle.mig_pagetypes.specs.declared.page_type.PageType.{PageType}
pub use Rattle.mig_pagetypes.specs.declared.page_type.PageType.TheVariants.{Broken, Notab, Xalloc, Xtab}
pub use Rattle.std.proofs.lemmas.List.{drop-append-le, drop_all, drop_at, get_or_past, map-id, nil_from_length, replicate-append-replicate, take-append-le, take_all, take_at, with_items_is}
pub use Rattle.std.proofs.lemmas.List.FromFn.{filter_of_map_range_with_len_more, get_or-range_with_len, length-range_with_len}
pub use Rattle.std.proofs.lemmas.Map.Entries.{filter_from_retain_pairs, lookup-filter-keys}
pub use Rattle.std.proofs.lemmas.Nat.{one_shl, ones-le, ones_cat, shr-shr, shr_below, shr_le, shr_split}
pub use Rattle.std.proofs.lemmas.Nat.Bits.{bit_at-lt, bit_at-trailing_zeros, bit_at-zero, bit_at_above, bit_at_cat_low, bit_at_clear_other, bit_at_clear_same, bit_at_ones, bit_at_ones_above, bit_at_or, bit_at_set_other, bit_at_set_same}
pub use Rattle.std.specs.BTreeMap.{is_at}
pub use Rattle.std.specs.BTreeMap.Range.{entries_between, is_from_start}
pub use Rattle.std.specs.Int.{bit_at, bit_not, trailing_zeros}
pub use Rattle.std.specs.Vec.{with_items}
pub use Rattle.std.specs.declared.ops.Bound.TheVariants.{Excluded, Included, Unbounded}
pub use Rattle.std.specs.declared.vec.Vec.{Vec}
