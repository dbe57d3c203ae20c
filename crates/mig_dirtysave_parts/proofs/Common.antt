-- Names that many proofs of this crate use.
pub use Rattle.std.proofs.Common.{ap, append-nil, append_assoc, inl, inr, length-append, length-take-le, refl, subst, sym, ◌++◌, ◌∙◌, ◌≡◌}
pub use Rattle.std.specs.Io.KnownBytes.{Appends, append_known}
pub use Rattle.std.specs.List.{AllByRecursion, flat_map, range_with_len}
pub use Rattle.std.specs.Prelude.{map, ◌&&◌, ◌≢◌}
pub use Rattle.mig_canon.proofs.Common.{puts_same, puts_stop, puts_then}
pub use Rattle.mig_canon.specs.Canon.{headers, info_records, last_records, p2m_record, p2m_records, records_in_order, records_of, static_bodies}
pub use Rattle.mig_dirtysave_parts.specs.KeptParts.{HoldsParts, SameSettings, is_early, is_setting, kept_parts, part_len, parts_alone}
pub use Rattle.mig_dirtysave_parts.specs.SaveTexts.{ClosesStream, IsContextFront, IsOtherRecord, StopsBehind, closing_records, context_record, judged_with, setting_codes, settings_seen, text_before}
pub use Rattle.mig_guest.proofs.Counts.{same_parts}
pub use Rattle.mig_guest.proofs.Kept.{empty_formed}
pub use Rattle.mig_guest.proofs.KeyedMaps.{tied}
pub use Rattle.mig_guest.proofs.PartRows.{changed_part, no_entries, one_code}
pub use Rattle.mig_guest.specs.Formed.{is_emulator_code, is_policy}
pub use Rattle.mig_guest.specs.Guests.{GuestOf}
pub use Rattle.mig_guest.specs.Hosts.{HostFrame, HostOf, IsHostPart, IsValid, pfn_in}
pub use Rattle.mig_guest.specs.Limits.{most_gdt_entries}
pub use Rattle.mig_guest.specs.Order.{part_cmp}
pub use Rattle.mig_guest.specs.PartCodes.{code_number, row_of}
pub use Rattle.mig_guest.specs.Parts.{FitsPolicy, IsNextKey, Part}
pub use Rattle.mig_guest.specs.declared.part_code.PartCode.TheVariants.{CpuidLeaf, HvmContext, HvmParam, Msr, P2mFrames, SharedInfo, Tsc, VcpuBasic, VcpuExtended, VcpuMsrs, VcpuXsave}
pub use Rattle.mig_guest.specs.declared.part_code.PartCode.{PartCode}
pub use Rattle.mig_headers.specs.RecordTypes.{most_policy_entries}
pub use Rattle.mig_headers.specs.declared.kind.Kind.{Kind}
pub use Rattle.mig_host_view.proofs.Common.{Bool, FrameOf, Hvm, IsFormed, IsPart, List, None, Option, PartKey, Pv, Some, [], arith, cond, context_key, eqb-true, false, gdt_ents, length, option_map, part_exact, part_total, true, ℕ, ◌+◌, ◌-◌, ◌<◌, ◌==◌, ◌^◌, ◌∷◌, ◌≤◌}
pub use Rattle.mig_host_view.proofs.ViewedFrames.{each_policy, top_is}
pub use Rattle.mig_host_view.proofs.ViewedParts.{hvm_part, pv_part}
pub use Rattle.mig_host_view.specs.Localised.{renamed, renamed_part}
pub use Rattle.mig_host_view.specs.RenamedContexts.{renamed_context}
pub use Rattle.mig_host_view.specs.View.{guest_in, hvm_view, top_of, view, without_machine}
pub use Rattle.mig_pvtables.proofs.EachValue.{from_each, get_each, stays_each, to_each}
pub use Rattle.mig_pvtables.specs.VcpuContexts.{blanked_context, blanked_shared, is_used_somewhere}
pub use Rattle.mig_records.specs.Records.{Record, spelled, text_of}
pub use Rattle.mig_records.specs.Shapes.{SayAll, canonical_bodies, contents_by_shape, part_body, parts_at, shape_of}
pub use Rattle.mig_records_pages.specs.Written.{AreRecordsWithin, IsRecordWithin, IsShortRecord, LeavesPart, WroteSome}
pub use Rattle.mig_canon.proofs.PvRecords.{p2m_short, short_part}
pub use Rattle.mig_canon.proofs.Spelling.{codes_alone, pv_last_text, single_text}
pub use Rattle.mig_pvtables.specs.Blank.{blanked_part}
pub use Rattle.std.proofs.lemmas.Bool.{cases_lt, leb-true, or_cases}
pub use Rattle.std.proofs.lemmas.List.{length-replicate, take-append-le}
pub use Rattle.std.specs.Ordering.{nat_cmp, ordering_reverse}
