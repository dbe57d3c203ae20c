-- Names that several definitions and contracts of this crate use.
pub use Rattle.std.specs.Borrow.{Array, Fml, Lends, LendsIf, MutBor, RattleType, sem, u8}
pub use Rattle.std.specs.Coded.{Coded, code_by, coded_list, coded_option, coded_ℕ, coded×}
pub use Rattle.std.specs.Int.{bit_at}
pub use Rattle.std.specs.List.{range_with_len}
pub use Rattle.std.specs.Option.{option_copied, option_copied_mut, option_map}
pub use Rattle.std.specs.Ordering.{is_lt, nat_cmp, on, then_cmp}
pub use Rattle.std.specs.declared.cmp.Ordering.TheVariants.{Less}
pub use Rattle.std.specs.declared.vec.Vec.{Vec}
pub use Rattle.mig_bytes.specs.Fields.{le64}
pub use Rattle.mig_headers.specs.RecordTypes.{both, exactly, hvm, most_body, most_policy_entries, pv, vcpu_limit}
pub use Rattle.mig_headers.specs.declared.kind.Kind.{Kind}
pub use Rattle.mig_headers.specs.declared.kind.Kind.TheVariants.{Hvm, Pv}
pub use Rattle.mig_pagestore.specs.Pages.{spliced}
pub use Rattle.mig_pagetypes.specs.Limits.{machine_limit, most_frames, pfn_limit, top_limit}
pub use Rattle.mig_pagetypes.specs.PageTypes.{level_of, type_has_data}
pub use Rattle.mig_pagetypes.specs.declared.page_type.PageType.{PageType}
pub use Rattle.mig_pagetypes.specs.declared.page_type.PageType.TheVariants.{Broken, Notab, Xalloc, Xtab}
