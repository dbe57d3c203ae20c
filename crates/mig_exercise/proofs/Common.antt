-- Names that many proofs of this crate use.
pub use Rattle.std.proofs.Common.{Bool, IsSome, List, None, Option, Some, [], ap, arith, cond, drop, false, filter, inl, inr, is_some, length, lit<, map, min, mul-le-mul_right, nat_eq, nat_lt, not, refl, subst, suc, sym, take, true, zero, ℕ, ◌%◌, ◌*◌, ◌++◌, ◌+◌, ◌-◌, ◌/◌, ◌<◌, ◌^◌, ◌∙◌, ◌∷◌, ◌≡◌, ◌≢◌, ◌≤◌}
pub use Rattle.std.proofs.lemmas.Bool.{cases_eq, cases_lt, cond_below, eq-eqb, eqb-true, false≢true, le-leb, le-ltb, lt-ltb, ltb-false, ltb-true, ne_eqb, or_cases}
pub use Rattle.std.specs.Cmp.{nat_cmp_total}
pub use Rattle.std.specs.FinMap.{find, nat_cmp-IsAntisymmetric}
pub use Rattle.std.specs.List.{All, AllByRecursion, flat_map, list_any, range_with_len}
pub use Rattle.std.specs.Option.{option_map}
pub use Rattle.std.specs.Ordering.{eq_by_cmp, nat_cmp}
pub use Rattle.std.specs.Prelude.{if◌then◌else◌, option_and_then, unwrap_or, ◌==◌}
pub use Rattle.byteorder.specs.Endian.{little_bytes}
pub use Rattle.mig_bytes.specs.Fields.{with_field}
pub use Rattle.mig_canon.specs.Canon.{all_vcpus, batch, batches, canon, frame_bodies, headers, info_records, key_of, last_records, p2m_body, p2m_record, p2m_records, part_record, pv_last_codes, records_in_order, records_of_vcpu, static_bodies, static_codes, vcpu_codes, vcpus_below}
pub use Rattle.mig_canon.specs.CanonStream.{canon_any}
pub use Rattle.mig_exercise.specs.ExerciseHosts.{ArePages, IsExerciseSize, data_count, exercise_context, exercise_frame, exercise_machine, exercise_machine_of, exercise_p2m_list, exercise_page, exercise_type, first_contents, first_data, frames_up_to, host_of_exercise, host_with, p2m_frame_count, page_of_zeros, present_entry, table_naming}
pub use Rattle.mig_exercise.specs.ExerciseScripts.{IsDataWrite, script_of_exercise}
pub use Rattle.mig_exercise.specs.ExerciseSteps.{host_begun, number_page}
pub use Rattle.mig_exercise.specs.Numbers.{next_number, number}
pub use Rattle.mig_guest.proofs.KeyedMaps.{insert_len, tied}
pub use Rattle.mig_guest.proofs.Longs.{length_longs, long_of_longs, put_long, same_longs}
pub use Rattle.mig_guest.proofs.PartOrder.{part_exact, part_total}
pub use Rattle.mig_guest.specs.Frames.{FrameMap, FrameOf, is_type_of}
pub use Rattle.mig_guest.specs.Hosts.{HostFrame, HostFrames, HostOf, IsHostFrame, IsHostPart, IsOneToOne, pfn_in}
pub use Rattle.mig_guest.specs.Longs.{long_at, longs}
pub use Rattle.mig_guest.specs.Order.{part_cmp}
pub use Rattle.mig_guest.specs.PartKeys.{p2m_key, shared_key, vcpu_key}
pub use Rattle.mig_guest.specs.Parts.{FitsPolicy, Part, PartMap, parts_of}
pub use Rattle.mig_guest.specs.declared.part_code.PartCode.TheVariants.{P2mFrames, SharedInfo, VcpuBasic}
pub use Rattle.mig_guest.specs.declared.part_key.PartKey.{PartKey}
pub use Rattle.mig_guest.specs.Limits.{most_gdt_entries}
pub use Rattle.mig_headers.specs.declared.kind.Kind.TheVariants.{Pv}
pub use Rattle.mig_headers.specs.RecordTypes.{most_policy_entries}
pub use Rattle.mig_host_view.specs.Sound.{IsSound, machine_type, unsoundness}
pub use Rattle.mig_host_view.specs.View.{view, without_machine}
pub use Rattle.mig_machine_script.specs.Groups.{ends_group, first_group, lines_up_to, ran, ran_between}
pub use Rattle.mig_machine_script.specs.HostLines.{after, after_line, applies, logged_after, logs, with_logged}
pub use Rattle.mig_machine_script.specs.ScriptLines.{LineOf, line_said}
pub use Rattle.mig_machine_script.specs.ScriptLines.LineOf.{Dot, Write}
pub use Rattle.mig_pagetypes.specs.PageTypes.{level_of, type_has_data}
pub use Rattle.mig_pagetypes.specs.declared.page_type.PageType.TheVariants.{L1Tab, L2Tab, L3Tab, L4Pinned, Notab}
pub use Rattle.mig_pagetypes.specs.Limits.{most_frames}
pub use Rattle.mig_pvtables.proofs.EachValue.{entries_each, from_each, len_each, shown, to_each}
pub use Rattle.mig_pvtables.specs.BadEntries.{NamesKnown}
pub use Rattle.mig_pvtables.specs.Blank.{each_value}
pub use Rattle.mig_pvtables.specs.P2mPages.{p2m_page}
pub use Rattle.mig_pvtables.specs.VcpuContexts.{blanked_context, blanked_shared, field_value, frame_of_field, is_used_somewhere}
pub use Rattle.mig_records_pages.specs.PageData.{Frame, body_of, page_in, pages_of}
pub use Rattle.mig_bytes.proofs.NumberMaps.{inserted, inserted_other, is_inserted}
pub use Rattle.mig_guest.proofs.Found.{all_found, insert_holds}
pub use Rattle.mig_guest.specs.Formed.{IsRawContent, gdt_ents, is_emulator_code}
pub use Rattle.mig_guest.specs.PartCodes.{code_number, row_of}
pub use Rattle.mig_guest.specs.declared.part_code.PartCode.{PartCode}
pub use Rattle.mig_host.specs.HostView.{put_frame, put_part_in}
pub use Rattle.mig_pvtables.specs.P2mFrames.{listed, listed_in, place_of}
pub use Rattle.std.proofs.lemmas.List.{length-replicate, map-append, replicate-append-replicate}
pub use Rattle.std.proofs.lemmas.Option.{cond_some, none-some}
