-- Names that many proofs of this crate use.
pub use base.Fml.{Fml, GName, Lft, Share, fat, ffalse, froom}
pub use denote.Index.{others, place_is, puts, row, takes}
pub use denote.Memory.{each_shared, each_shr_laws, lone, mem, part_at, shared_of, shares}
pub use denote.RattleType.{RattleType, Valss}
pub use mir.Syntax.{Args, Fn, Ty, Width, a_type, dcons, dnil, int_big, ty_unit}
pub use mir.Val.{Fits, Val, WT, has_ty, of_list, vcons, vint, vnil, vstruct}
pub use prog.Wp.{Env, Wp, after_seq, at_return}
pub use seplogic.Ra.Ura.{Ura}
pub use types.Kit.{ !, Item, any_q, done, drop, fjoin, fsplit, given, keep, learn, move, pick, qed, rewrite, some, split, use1, use2, ‵, ⋆, ◌$◌, ◌∵◌, ◌⊛◌}
pub use types.Run.{Opd, addr, switches_on}
