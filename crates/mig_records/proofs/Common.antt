-- Names that many proofs of this crate use.
pub use Rattle.std.proofs.Common.{Bool, Err, List, None, Ok, Option, Result, Some, [], ap, append-nil, append_assoc, arith, cond, drop, drop-drop, drop_at, false, inl, inr, length, length-append, length-drop, length-take-le, map, nat_eq, nat_le, nat_lt, not, refl, replicate, rules, subst, suc, sym, take, take-append-drop, true, zero, ℕ, ◌%◌, ◌*◌, ◌++◌, ◌+◌, ◌-◌, ◌/◌, ◌<◌, ◌^◌, ◌↔◌, ◌∙◌, ◌∷◌, ◌≡◌, ◌≢◌, ◌≤◌}
pub use Rattle.std.proofs.lemmas.Bool.{and_from, and_parts, and_right, eq-eqb, eqb-true, le-leb, le-ltb, leb-false, leb-true, ltb-false, ltb-true, not-false, not_from_true, or_cases, or_right}
pub use Rattle.std.proofs.lemmas.List.{get_or-drop, length-replicate, take-append-le, take-replicate, take_at}
pub use Rattle.std.specs.List.{All, AllByRecursion, list_any, position_or_len}
pub use Rattle.std.specs.Prelude.{OnErr, OnOk, slice_index, ⊤, ◌&&◌, ◌==◌}
pub use Rattle.byteorder.specs.Endian.{little_bytes, little_number}
pub use Rattle.byteorder.specs.Numbers.{length-bytes_low_first, little_from-append, little_from-lt, little_number-reads_back}
pub use Rattle.mig_records.specs.Layouts.{AreTableEntries, AreWidths, IsLayout, IsSmallKey, IsTable, IsTableFront, entries_text, entry_count, entry_part, entry_parts, entry_width, fault_of_entries, fault_of_entry, fault_of_key, fault_of_table, front_text, front_width, key_in, layout, parts_of_table, spelled_key, table_text}
pub use Rattle.mig_records.specs.Shapes.{BodiesAreSpelled, BodiesKeepFormed, BodiesSayBytes, BodiesSayOne, BodiesSayParts, CanonicalBodiesSay, HasBodyLength, IsBody, IsChain, IsNamed, IsRecordBody, IsRow, IsShaped, IsSingle, SayAll, bodies_by_shape, cleared, contents_by_shape, cut, fault_by_shape, fault_of_body, fault_of_content, fault_of_scan, has_shape, named_parts, part_body, parts_at, parts_by_shape, parts_of_body, set_parts, shape_of, sole_key}
pub use Rattle.mig_records.specs.declared.layout.Layout.{Layout}
pub use Rattle.mig_records.specs.declared.shape.Shape.{Shape}
pub use Rattle.mig_records.specs.declared.shape.Shape.TheVariants.{Chain, Named, Other, Single, Table}
pub use Rattle.mig_guest.specs.Formed.{AreParts, HasNoEmulators, IsContent, IsCut, IsFormed, IsGuestFrame, IsInside, IsPart, IsTop, gdt_ents, is_emulator_code, is_policy, width_of}
pub use Rattle.mig_guest.specs.Guests.{GuestOf}
pub use Rattle.mig_guest.specs.PartCodes.{code_number, row_of, small_number}
pub use Rattle.mig_guest.specs.Parts.{Part, PartMap, put_part, put_parts, replace_code}
pub use Rattle.mig_guest.specs.declared.part_code.PartCode.{PartCode}
pub use Rattle.mig_guest.specs.declared.part_code.PartCode.TheVariants.{CpuidLeaf, Msr, P2mFrames, VcpuBasic, VcpuExtended, VcpuMsrs, VcpuXsave}
pub use Rattle.mig_guest.specs.declared.part_key.PartKey.{PartKey}
pub use Rattle.mig_guest.specs.Limits.{most_gdt_entries}
pub use Rattle.mig_headers.proofs.FirstFaults.{both_none, neither_some, no_fault, rows_fine}
pub use Rattle.mig_headers.specs.Rows.{first_fault}
pub use Rattle.mig_headers.specs.declared.fault.Cause.{Cause}
pub use Rattle.mig_headers.specs.declared.fault.Cause.TheVariants.{BadLength, BadPageType, BadPvInfo, GdtEnts, P2mStart, PfnOutside, Pv32, VcpuId}
pub use Rattle.mig_headers.specs.RecordTypes.{most_body, most_policy_entries, record_row_of, type_of_number, vcpu_limit}
pub use Rattle.mig_bytes.specs.Bytes.{AreBytes, padding_len}
pub use Rattle.mig_guest.proofs.PartOrder.{part_exact, part_total}
pub use Rattle.mig_guest.proofs.PartRows.{IsOf, of_part, sole, with_bytes}
pub use Rattle.mig_guest.proofs.PartSets.{cleared_other, put_other, puts_other}
pub use Rattle.mig_guest.specs.PartKeys.{p2m_key}
pub use Rattle.mig_headers.proofs.ContextTexts.{contexts_are_spelled, scan_cut, in32}
pub use Rattle.mig_headers.specs.Contexts.{cut_at, scan}
pub use Rattle.mig_headers.specs.declared.kind.Kind.{Kind}
pub use Rattle.mig_records.specs.Faults.{fault_of_length, fault_of_words, length_rows}
pub use Rattle.mig_records.specs.PvBodies.{IsP2m, IsPvInfo, fault_of_p2m, fault_of_pv_info, fault_of_vcpu, fault_of_vcpu_record, greater, is_vcpu, is_vcpu_type, listed_over, p2m_count, set_p2m}
pub use Rattle.mig_records.specs.Words.{IsFirst, has_reserved_type, names_outside}
pub use Rattle.std.proofs.Math.Nat.{mul-div_cancel_left, mul-suc, pow-le-pow_right}
pub use Rattle.std.proofs.lemmas.Grind.{common_steps, flat_map-append}
pub use Rattle.std.proofs.lemmas.List.Elements.{All-append, All-drop, All-head, All-replicate, All-tail, All-take, recursion_from_All}
pub use Rattle.std.specs.Option.{option_or}
