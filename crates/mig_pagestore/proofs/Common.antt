-- Names that many proofs of this crate use.
pub use Rattle.std.proofs.Common.{Bool, Bor, IsSome, List, MutBor, None, Option, Some, T, [], ap, append-nil, append_assoc, arith, cond, false, get_or, get_or-set_other, get_or-set_same, inl, inr, is_some, length, length-append, length-set, map, refl, replicate, set, slice_get, slice_index, subst, suc, sym, take, drop, true, zero, ℕ, ◌%◌, ◌&&◌, ◌*◌, ◌++◌, ◌+◌, ◌-◌, ◌/◌, ◌<◌, ◌==◌, ◌^◌, ◌∙◌, ◌∷◌, ◌≡◌, ◌≢◌, ◌≤◌}
pub use Rattle.std.proofs.lemmas.Bool.{cases_eq, eq-eqb, eqb-true, ne_eqb}
pub use Rattle.std.specs.FinMap.{FinMap, entries-from_sorted, entries_sorted, find, get-empty, get-entries, get-from_entries, get-from_sorted, is_sorted, len-entries, nat_cmp-IsAntisymmetric, same_map}
pub use Rattle.std.specs.Option.{ghost_name_of, option_and_then, option_copied, option_copied_mut, option_map, unwrap_or}
pub use Rattle.std.specs.Ordering.{eq_by_cmp, is_lt, nat_cmp}
pub use Rattle.mig_pagestore_index.specs.Indexed.{ValueMap}
pub use Rattle.mig_pagestore.specs.FrameLending.{repaged, with_page}
pub use Rattle.mig_pagestore.specs.FrameView.{AreCells, CountsZeros, IsCell, IsLed, Leads, LieInRun, Moved, SameBut, cell_mark, cell_place, cell_type, frame_at, frames_seen, is_place, is_zeros, mark_of_page, mark_or_0, page_at_place, page_of_mark, place_of_mark, place_of_page, place_or_0, whole_page, zeros_in}
pub use Rattle.mig_pagestore.specs.Frames.{FrameMap, FrameOf, Framed, IsFrame, IsRun, IsSized, frame_page}
pub use Rattle.mig_pagestore.specs.Packed.{IsArena, IsFound, Placed, all_pages}
pub use Rattle.mig_pagetypes.specs.PageTypes.{number_of, type_has_data, type_of, type_or_none}
pub use Rattle.mig_pagetypes.specs.declared.page_type.PageType.{PageType}
pub use Rattle.core.proofs.alloc.Calls.{Al, Answer-typed, Answered, Gives, Gives-Gives, Gives-goes, Goes-blank, Takes, Takes-gives, Takes-goes, answers, at_gives, at_takes, seen}
pub use Rattle.core.proofs.atomic.Steps.{fm}
pub use Rattle.mig_bytes.proofs.NumberMaps.{inserted, inserted_other, is_inserted, is_removed, removed, removed_other}
pub use Rattle.mig_pagetypes.specs.Limits.{pfn_limit}
pub use Rattle.std.proofs.Math.Seq.{drop-cons, get_or-append_seam}
pub use Rattle.std.proofs.lemmas.List.{get_or_append_left, length-drop, length-replicate, length-take}
pub use Rattle.std.proofs.lemmas.Option.{get_or_from_slice_get, slice_get-get_or}
pub use Rattle.std.proofs.raw_atomic.Walks.{proved_at}
pub use Rattle.std_alloc.proofs.Rotate.{set_back, set_front}
pub use contract.BorrowLft.{⊑_trans, ◌⊑◌}
pub use denote.Param.{bounded, layout, param}
pub use denote.Shadow.{makes_shadow, shadow}
pub use denote.Signature.{type_at, types_at}
pub use denote.Struct.Struct.{Struct, Struct-Makes, within}
pub use denote.Triple.Call.{calls_at, calls_at_last}
pub use denote.Triple.Entry.{alive}
pub use mir.MapTy.{inst_fn}
pub use types.ByLocal.{get_tag, lands_as, lands_last}
pub use Rattle.std.specs.Cmp.{nat_cmp_total}
pub use base.Fraction.{full_share}
pub use mir.Val.{vint}
pub use mir.Syntax.{w64}
pub use prog.Capped.{capped_is}
pub use denote.Builtin.{usize}
pub use types.Run.{bin}
