-- The names that the walks cite.
pub use Rattle.std.proofs.Common.{◌≡◌, ℕ, suc, ◌+◌, ◌-◌, ◌*◌, ◌<◌, ◌≤◌, ◌^◌, List, [], ◌∷◌, ◌++◌, length, length-append, length-set, set, get_or, refl, sym, ap, subst, ◌∙◌, lit<, w8, w64, arith}
pub use Rattle.std.proofs.raw_atomic.Walks.{proved}
pub use Rattle.core.proofs.alloc.Shapes.{after}
pub use base.Fraction.{full_share}
pub use base.Logic.{ent, sep, SProp, id⊢, never}
pub use base.Fml.{Fml, ftrue, fsep, fat, froom, flft}
pub use mir.Syntax.{named}
pub use mir.Val.{Val, vunit, vint, vptr}
pub use contract.Monad.{fact}
pub use contract.Running.{tables}
pub use prog.Wp.{WpFn}
pub use types.Logic.{Logic, sem}
pub use types.Kit.{‵, raw, ◌⊛◌, some, later, prop, at_ret, ◌$◌, ◌∵◌, !, qed, by, move, keep, drop, use0, use1, use2, use3, split, join, fsplit, fsplit3, fjoin, fjoin3, fpack, feq_i, feq_l, flt_i, pick, await, rewrite, regoal, suffices, frame, group, done}
pub use types.Part.{whole, sub, agg}
pub use types.Run.{enter, of_opd, unit_lit, lit, bin, load, look, init, stop, fld, no_more, and_then, assigns_last, first, blocks, exec, returns}
pub use types.ByLocal.{alloc_all, pass_all, free_all, look_at, get, get_in, through, sets, sets_last, take_at, give_at, env}
pub use denote.RattleType.{owns}
pub use denote.Memory.{lone, mem, part_at, cell_at}
pub use denote.Index.{row}
pub use denote.Opens.{hide, unhide}
pub use denote.Exit.{yes, no}
pub use denote.Array.{array_vals, Array-Tells, Array-Lawful}
pub use denote.Plain.{uint_vals, uint_Tells, uint_Lawful}
pub use denote.Builtin.{ArrayOf, RefOf, u8, usize}
pub use denote.RawPtr.{Ptr, block_ptr, in_a_block}
pub use denote.Ref.{ShrRef, MutRef, shr_vals, shr_Tells, mut_vals, mut_Tells}
pub use denote.Signature.{plain, mut_ref_to}
pub use denote.Slice.{slice_val}
pub use denote.Laws.{Is, shows}
pub use denote.Steps.{nothing, opens, closes, heard, peeks}
pub use denote.Triple.Walked.{Stays, walk_of, says, stay_dropped, stay_ref, Goes-dropped, Goes-ref, Goes-spent_ref, ends_at}
pub use Rattle.mig_pagestore.specs.Ownership.{Page, block, cells_own, cells_lent}
pub use Rattle.mig_pagestore.specs.contracts.cells.Base.{the_row as Base}
pub use Rattle.mig_pagestore.specs.contracts.cells.Cells.{the_row as Cells}
pub use Rattle.mig_pagestore.proofs.Pages.{Mark, mark, mark_made, mark_told, page, big, cut_end, snoc, unsnoc, all_room}
pub use borrow.Table.OneValue.{part_in, part_out}
pub use Rattle.std_alloc.proofs.RcSteps.{Good, word, word-Good}
pub use Rattle.mig_pagestore.proofs.cells.Base.TheLaws.{lowers}
