-- Names that many proofs of this crate use.
pub use Rattle.std.proofs.Common.{◌⊎◌}
pub use Rattle.std.proofs.lemmas.Bool.{and_from, and_parts, both_ways, false≢true, not-true, or_cases, or_left, or_right}
pub use Rattle.std.proofs.lemmas.List.Elements.{All-head, All-tail, recursion_from_All}
pub use Rattle.std.specs.Cmp.{IsTotalOrder, ranked}
pub use Rattle.std.specs.FinMap.{FinMap, IsAntisymmetric}
pub use Rattle.std.specs.Ordering.{eq_by_cmp, is_lt}
pub use Rattle.std.specs.Prelude.{Err, Ok, Result, filter, option_and_then}
pub use Rattle.std.specs.declared.cmp.Ordering.{Ordering}
pub use Rattle.std.specs.declared.cmp.Ordering.TheVariants.{Equal, Less}
pub use Rattle.mig_bytes.proofs.ByteLists.{Bytes, long_below}
pub use Rattle.mig_bytes.specs.Bytes.{AreBytes}
pub use Rattle.mig_guest.proofs.KeyedMaps.{tied}
pub use Rattle.mig_guest.proofs.PartCursor.{both_of, less, true_of}
pub use Rattle.mig_guest.specs.Hosts.{HostFrame, HostOf, IsValid, pfn_in}
pub use Rattle.mig_guest.specs.Limits.{most_gdt_entries}
pub use Rattle.mig_headers.specs.CauseNumbers.{number_of_cause}
pub use Rattle.mig_headers.specs.declared.fault.Cause.{Cause}
pub use Rattle.mig_headers.specs.declared.kind.Kind.{Kind}
pub use Rattle.mig_headers.specs.declared.unsound.Unsound.{Unsound}
pub use Rattle.mig_headers_text.specs.UnsoundTexts.{number_of_unsound}
pub use Rattle.mig_host_laws.specs.Fields.{Field, FieldRow, IsField, IsNumbered, UsedWhere, field_numbered, field_row, said_by, with_frame_in}
pub use Rattle.mig_host_laws.specs.FirstRow.{IsWide, find_ill_listed, find_said, first_row, names_ill, row_1, row_2, row_3, row_4, row_5, row_6, row_7}
pub use Rattle.mig_host_laws.specs.NamedAnew.{AreNamesSmall, IsSeenAs, SaysAnew, Uses}
pub use Rattle.mig_host_laws.specs.NamedFirst.{IsNamedBefore, NamesFirst}
pub use Rattle.mig_host_laws.specs.Standing.{Standing, before_saver, in_host, in_machine, in_stream, is_of_no_type, itself_in, said_in, said_of, says_in, type_named}
pub use Rattle.mig_host_laws.specs.Unsoundness.{IsWrong, IsWrongAtEnd, NamesFirstRow, UnsoundHas, cause_in_stream, is_left_at_end, key_rank}
pub use Rattle.mig_host_laws.specs.Unsoundness.IsWrong.{bad_context, field_ill, large, listed_twice, many_descriptors, nameless, no_context, no_p2m, no_shared, no_vcpu, other_type}
pub use Rattle.mig_host_view.specs.Localised.{renamed_part}
pub use Rattle.mig_host_view.specs.RenamedContexts.{field_named, renamed_context, value_renamed}
pub use Rattle.mig_host_view.specs.Sound.{IsSound, absent, fault_in, needed_keys, unsound_rows, unsoundness}
pub use Rattle.mig_host_view.specs.View.{guest_in, view, without_machine}
pub use Rattle.mig_pvtables.proofs.BlankSays.{field_there, place_field}
pub use Rattle.mig_pvtables.proofs.Common.{Blank, Bool, Entry, Frame, FrameMap, FrameOf, GuestOf, Hvm, IsFormed, IsSome, IsWhole, List, None, NotPresent, Option, PageType, PartKey, PartMap, Pv, Some, Superpage, TooManyFrames, [], ap, arith, blanked_context, blanked_part, blanked_shared, cases_eq, cases_lt, cond, count_in, each_stays, each_value, entry, eq-eqb, eqb-true, false, fault_of_guest, faults_for, field_at, field_value, find, find_entry, find_p2m, find_slot, first_cause, first_some, fits_field, frame_of_field, gdt_ents, inl, inr, is_absent, is_none, is_notab, is_some, is_superpage, is_this, is_used, le-leb, le-ltb, length, length_longs, level_of, list_any, listed, listed_in, long_at, long_of_longs, lt-ltb, ltb-true, most_frames, nat_cmp, nat_cmp-IsAntisymmetric, nat_cmp_total, nat_le, nat_lt, ne_eqb, not, option_map, option_or, p2m_key, part_cmp, part_exact, part_total, put_long, range_with_len, refl, shared_key, subst, suc, sym, true, type_at, value_blanked, vcpu_key, zero, ℕ, ◌%◌, ◌&&◌, ◌*◌, ◌+◌, ◌-◌, ◌/◌, ◌<◌, ◌==◌, ◌^◌, ◌||◌, ◌↔◌, ◌∙◌, ◌∷◌, ◌≡◌, ◌≢◌, ◌≤◌}
pub use Rattle.mig_pvtables.proofs.EachValue.{get_each, to_each}
pub use Rattle.mig_pvtables.proofs.Moduli.{long_of_each}
pub use Rattle.mig_pvtables.specs.BadEntries.{is_unknown}
pub use Rattle.mig_pvtables.specs.VcpuContexts.{Usage, is_used_somewhere}
pub use Rattle.mig_guest.specs.Longs.{longs}
pub use Rattle.mig_pvtables.proofs.BlankBytesKept.{longs_bytes}
