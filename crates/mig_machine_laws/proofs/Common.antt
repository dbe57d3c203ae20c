-- Names that several proofs of this crate use.
pub use Rattle.mig_guest.specs.Footprints.{footprint_of}
pub use Rattle.mig_guest.specs.History.{History, LogTook}
pub use Rattle.mig_guest.specs.Hosts.{HostFrame, HostFrames, HostOf, pfn_in}
pub use Rattle.mig_guest.specs.Longs.{long_at}
pub use Rattle.mig_guest.specs.Pfns.{Pfns, all_below, size}
pub use Rattle.mig_guest.specs.Rounds.{Rounds, to_read}
pub use Rattle.mig_headers.specs.declared.kind.Kind.{Kind}
pub use Rattle.mig_headers.specs.declared.kind.Kind.TheVariants.{Hvm, Pv}
pub use Rattle.mig_machine_script.specs.HostLines.{after_line, applies, logged_after}
pub use Rattle.mig_machine_script.specs.ScriptLines.{LineOf}
pub use Rattle.mig_pagetypes.specs.PageTypes.{level_of, type_has_data, type_of}
pub use Rattle.mig_pagetypes.specs.declared.page_type.PageType.{PageType}
pub use Rattle.mig_pvtables.specs.Faults.{fits_field}
pub use Rattle.mig_pvtables.specs.P2mPages.{p2m_page}
pub use Rattle.mig_records_pages.specs.Batches.{BatchesCut, IsBehind}
pub use Rattle.mig_records_pages.specs.Told.{FrameTold, all_told}
pub use Rattle.std.specs.Prelude.{option_and_then, replicate, unwrap_or, ◌&&◌, ◌==◌, ◌↔◌}
pub use Rattle.byteorder.specs.Endian.{little_bytes}
pub use Rattle.std.proofs.Common.{Bool, List, None, Option, Some, [], ap, arith, cond, false, inl, inr, length, length-append, nat_le, not, refl, subst, suc, sym, true, zero, ℕ, ◌*◌, ◌++◌, ◌+◌, ◌-◌, ◌<◌, ◌^◌, ◌∙◌, ◌∷◌, ◌≡◌, ◌≤◌, ◌⊎◌}
pub use Rattle.std.specs.Cmp.{nat_cmp_total}
pub use Rattle.std.specs.FinMap.{nat_cmp-IsAntisymmetric}
pub use Rattle.mig_machine_script.specs.ScriptLines.LineOf.{Add, Dot, Exchange, Put, Remove, Retype, Write}
pub use Rattle.std.proofs.lemmas.Bool.{and_from, and_parts, both_ways, cases_lt, eq-eqb, eqb-true, false_from_ne_true, not-true, not_from_false, or_from}
