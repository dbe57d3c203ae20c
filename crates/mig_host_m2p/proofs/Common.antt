-- Names that many proofs of this crate use.
pub use Rattle.std.proofs.Common.{Bool, IsSome, List, None, Option, Some, [], ap, arith, false, inl, inr, is_some, length, length-set, refl, rules, set, slice_index, subst, suc, sym, true, zero, ℕ, ◌+◌, ◌-◌, ◌<◌, ◌^◌, ◌∙◌, ◌≡◌, ◌≢◌, ◌≤◌, ◌⊎◌}
pub use Rattle.std.proofs.lemmas.Bool.{cases_eq, cases_lt, eq-eqb, ne_eqb}
pub use Rattle.std.specs.Int.{bit_at}
pub use Rattle.mig_pagestore_index.specs.Indexed.{ValueMap}
pub use Rattle.mig_host_m2p.specs.declared.cell.Cell.{Cell}
pub use Rattle.mig_host_m2p.specs.Cells.{Agree, HasAbove, IsNext, cell_at, either_below, free_cell, led, next_cell, with_cell}
unfoldable pub use Rattle.mig_host_m2p.specs.Cells.{below_on, collected, led_on}
pub use Rattle.mig_host_m2p.specs.Trees.{AreFree, IsGrown, IsStanding, kept, kept_in}
pub use Rattle.mig_pagetypes.specs.Limits.{machine_limit}
pub use Rattle.mig_pagestore_index.proofs.Counted.{counted_less, counted_more, counted_same, nothing_out, some_counted}
pub use Rattle.std.proofs.lemmas.List.{get_or-set_other, get_or-set_same}
pub use Rattle.std.proofs.lemmas.Nat.Bits.{bit_at-lt, bit_at-pow_same, bit_at-zero, same_from_bits_below}
pub use Rattle.std.specs.FinMap.{get-empty, len-empty, nat_cmp-IsAntisymmetric, same_map}
pub use Rattle.std.specs.Ordering.{nat_cmp}
pub use Rattle.std.specs.Prelude.{if◌then◌else◌}
