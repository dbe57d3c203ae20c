-- Names that many proofs of this crate use.
pub use Rattle.std.proofs.Common.{Bool, Global, List, None, Option, Some, [], ap, append-nil, append_assoc, arith, cond, drop, eq-eqb, eqb-true, false, fold, is_some, length, map, nat_eq, nat_lt, not, refl, rules, subst, suc, sym, take, true, zero, ℕ, ◌%◌, ◌++◌, ◌+◌, ◌-◌, ◌<◌, ◌^◌, ◌∙◌, ◌∷◌, ◌≡◌, ◌≤◌}
pub use Rattle.std.proofs.lemmas.Grind.{common_steps}
pub use Rattle.std.proofs.lemmas.List.Elements.{All-append, All-cons, All-from_recursion, All-head, All-nil, All-same, All-tail, All-weaker, recursion_from_All}
pub use Rattle.std.proofs.lemmas.List.Splits.{join_with_byte-slice_split, length-slice_split, slice_split-cons_yes, slice_split_at, slice_split_first, slice_split_none}
pub use Rattle.std.proofs.lemmas.List.Sums.{fails_before_first, fold-append, passes_at_first, prefix_len-le-length, split_at_first}
pub use Rattle.std.specs.Cmp.Lexicographic.{lists_agrees, nat_list_cmp_total, slice_cmp, slice_partial_cmp}
pub use Rattle.std.specs.FinMap.{entries-from_sorted, entries-insert, entries_sorted, len-empty, len-entries, nat_cmp-IsAntisymmetric, same_entries_map, slice_cmp-IsAntisymmetric}
pub use Rattle.std.specs.FinMap.Entries.{below_all, by_order, is_sorted, is_sorted-put, put}
pub use Rattle.std.specs.List.{All, AllByRecursion, flat_map, join_with_byte, list_all, position, position_or_len}
pub use Rattle.std.specs.Ordering.{eq_by_cmp, is_eq, is_lt, is_some_and, match_ordering, nat_cmp, ordering_reverse}
pub use Rattle.std.specs.Prelude.{IfNone, IsTrue, T, if◌then◌else◌, ◌&&◌, ◌||◌, ◌↔◌, ◌⊎◌}
pub use Rattle.std.specs.declared.cmp.Ordering.{Ordering}
pub use Rattle.std.specs.declared.cmp.Ordering.TheVariants.{Equal, Greater, Less}
pub use Rattle.mig_headers.specs.Pairs.{AreCanonicalPairs, AreRising, IsPair, Pair, are_rising_texts, is_key_byte, text_of_pair, texts_in}
pub use Rattle.mig_policy.specs.PairFaults.{HasNoZero, IsTornAt, SpellPairs, bad_key_at, ended, fine_len, torn_at}
pub use Rattle.mig_policy.specs.PairMaps.{AreSetBefore, IsOfPairs, MapsAreOfPairs, PairMap, SomeBytesAreSomePairs, TextsAreCanonical, map_of, merged, pair_of, pairs_in, pairs_of, pairs_seen, put_pair, put_pairs, shown, text_of_entry, text_of_map}
pub use mathlib.Core.Logic.{inl, inr}
