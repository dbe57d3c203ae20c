-- Names that many proofs of this crate use.
pub use Rattle.std.proofs.Common.{Bool, IsSome, List, None, Option, Some, [], ap, arith, cond, false, get_or, get_or-set_other, get_or-set_same, inl, inr, is_some, length, length-set, refl, replicate, set, slice_index, subst, suc, sym, true, vec_len, zero, ℕ, ◌%◌, ◌*◌, ◌++◌, ◌+◌, ◌-◌, ◌/◌, ◌<◌, ◌^◌, ◌∙◌, ◌∷◌, ◌≡◌, ◌≢◌, ◌≤◌, ◌⊎◌}
pub use Rattle.std.proofs.lemmas.Bool.{cases_eq, cases_lt, eq-eqb, le-ltb, lt-ltb, ne_eqb}
pub use Rattle.mig_pagestore_index.specs.Indexed.{Indexed, ValueMap, gathered, number_limit}
pub use Rattle.mig_pagestore_index.specs.Leaves.{Becomes, IsFan, IsLevel, step, under}
pub use Rattle.mig_pagestore_index.specs.Tree.{HasRoom, IsAsFull, IsOneLess, IsTree, found, leaf}
pub use Rattle.mig_pagestore_index.specs.Directories.{AreWithin, IsFork, IsSearched, lead, leaf_at, near_keys}
pub use Rattle.mig_pagestore_index.specs.declared.tree.Tree.{Tree}
pub use Rattle.std.specs.Cmp.{nat_cmp_total, unsigned_tied}
pub use Rattle.std.specs.FinMap.{empty_of_len, get-empty, get-insert, get-remove, len-empty, len-insert, len-remove, nat_cmp-IsAntisymmetric, same_map}
pub use Rattle.std.specs.Ordering.{eq_by_cmp, nat_cmp}
