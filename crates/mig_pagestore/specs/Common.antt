-- Names that several definitions and contracts of this crate use.
pub use Rattle.std.specs.Borrow.{Array, sem, u8}
pub use Rattle.std.specs.Coded.{Coded, code_by, coded_list, coded_option, coded_ℕ, coded×}
pub use Rattle.std.specs.Option.{option_and_then, option_copied, option_copied_mut, option_map, unwrap_or}
pub use Rattle.std.specs.Ordering.{nat_cmp}
pub use denote.RawPtr.{Ptr, block_ptr, null_ptr}
pub use Rattle.mig_pagetypes.specs.Limits.{pfn_limit}
pub use Rattle.mig_pagetypes.specs.PageTypes.{type_has_data, type_of, type_or_none}
pub use Rattle.mig_pagetypes.specs.declared.page_type.PageType.{PageType}
pub use Rattle.mig_pagetypes.specs.declared.page_type.PageType.TheVariants.{Xtab}
