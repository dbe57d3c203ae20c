-- Names that many proofs of this crate use.
pub use Rattle.mig_headers.specs.declared.kind.Kind.TheVariants.{Hvm, Pv}
pub use Rattle.mig_outline.specs.Outline.{outline_frame, outline_framed, outline_frames, outline_page, outline_type, put_outline_entry}
pub use Rattle.mig_pagetypes.specs.declared.page_type.PageType.TheVariants.{Broken, Notab, Xalloc, Xtab}
pub use Rattle.mig_restore_form.specs.Judging.{page_at}
pub use Rattle.mig_headers.specs.declared.kind.Kind.{Kind}
pub use Rattle.mig_pvtables.proofs.Common.{FrameMap, FrameOf, GuestOf, List, None, Option, PageType, Some, [], ap, level_of, nat_cmp-IsAntisymmetric, nat_cmp_total, refl, sym, ℕ, ◌∙◌, ◌∷◌, ◌≡◌}
pub use Rattle.mig_restore.proofs.Noted.{weaker}
