-- Names that many proofs of this crate use.
pub use Rattle.std.proofs.Common.{Err, List, None, Ok, Option, Some, [], ap, append-nil, append_assoc, arith, drop, false, fold, get_or, inl, length, length-append, length-drop, length-take-le, min, nat_eq, nat_lt, not, refl, rules, subst, suc, sym, take, true, zero, zero-add, ℕ, ◌*◌, ◌++◌, ◌+◌, ◌-◌, ◌<◌, ◌^◌, ◌∙◌, ◌∷◌, ◌≡◌, ◌≢◌, ◌≤◌}
pub use Rattle.std.proofs.lemmas.Bool.{eq-eqb, ne_eqb}
pub use Rattle.std.proofs.lemmas.Grind.{common_steps}
pub use Rattle.std.proofs.lemmas.List.{drop-append-le, drop-drop, get_or-take, get_or_append_left}
pub use Rattle.std.specs.Option.{option_or}
pub use Rattle.std.specs.Prelude.{◌%◌, ◌/◌}
pub use Rattle.byteorder.specs.Endian.{little_number}
pub use Rattle.mig_bytes.specs.Fields.{le16, le32}
pub use Rattle.mig_guest.specs.declared.part_code.PartCode.{PartCode}
pub use Rattle.mig_guest.specs.declared.part_code.PartCode.TheVariants.{CpuidLeaf, HvmParam, Msr, VcpuBasic, VcpuExtended}
pub use Rattle.mig_guest.specs.Limits.{most_gdt_entries}
pub use Rattle.mig_headers.proofs.ContextTexts.{in16, in32, past16, past32}
pub use Rattle.mig_headers.specs.Contexts.{scan}
pub use Rattle.mig_headers.specs.Rows.{first_fault}
pub use Rattle.mig_headers.specs.declared.fault.Cause.{Cause}
pub use Rattle.mig_headers.specs.declared.fault.Cause.TheVariants.{BadLength, GdtEnts, Truncated}
pub use Rattle.mig_headers.specs.declared.fault.ContextFault.TheVariants.{HeaderSize, NoEnd, NoHeader, ShortEntry}
pub use Rattle.mig_policy.specs.PairFaults.{pairs_fault}
pub use Rattle.mig_records.specs.Layouts.{fault_of_entries, fault_of_entry, fault_of_key, fault_of_table, layout}
pub use Rattle.mig_records.specs.PvBodies.{fault_of_p2m, fault_of_pv_info}
pub use Rattle.mig_records.specs.Shapes.{fault_by_shape, fault_of_body, fault_of_content, fault_of_scan}
pub use Rattle.mig_relay_bodies.specs.Begun.{FitsForm, IsBegunBody, IsKnown, fault_behind, fault_of_form, params, piece_len, piece_of}
pub use Rattle.mig_relay_bodies.specs.ContextChain.{ChainSays, IsAhead, IsBegunContext, IsHeaderFault, chain_piece, fault_of_scanned}
pub use Rattle.mig_relay_bodies.specs.ContextChain.IsHeaderFault.{not_header, not_sized}
pub use Rattle.mig_relay_bodies.specs.PairPieces.{fault_in_pairs, no_bytes, then_byte, torn_in}
pub use Rattle.mig_relay_bodies.specs.declared.chain.Chain.{Chain}
pub use Rattle.mig_relay_bodies.specs.declared.chain.Chain.TheVariants.{Entry}
pub use Rattle.mig_relay_bodies.specs.declared.known.BodyForm.{BodyForm}
pub use Rattle.mig_relay_bodies.specs.declared.known.BodyForm.TheVariants.{BasicVcpu, EmulatorContext, EmulatorPairs, HvmParams, OtherVcpu, P2mFrames, PvInfo}
pub use Rattle.mig_relay_bodies.specs.declared.known.Knows.{Knows}
pub use Rattle.mig_relay_bodies.specs.declared.known.Knows.TheVariants.{Basic, Entries, Nothing, Params, Texts, Verdict}
pub use Rattle.mig_relay_bodies.specs.declared.pairs.Pairs.{Pairs}
pub use Rattle.mig_headers.proofs.Chains.{chain_more, scan_is}
