-- Names that many proofs of this crate use.
pub use Rattle.mig_file.specs.Files.{IsThere, left_at}
pub use Rattle.mig_guest.specs.Frames.{FrameOf}
pub use Rattle.mig_pagestore_index.specs.Indexed.{ValueMap}
pub use Rattle.mig_restore_form.specs.Mean.{is_same_page}
pub use Rattle.mig_bytes.proofs.Joins.{weakened}
pub use Rattle.mig_outline.specs.Outline.{outline_frames}
pub use Rattle.mig_placed.specs.InFile.{frames_in_file, page_in_file}
pub use Rattle.std.specs.Prelude.{IfSome}
pub use Rattle.mig_placing.specs.Places.{ArePlaced}
pub use Rattle.mig_restore.proofs.Common.{Bool, None, Option, Some, ap, arith, cond, entry_at, false, is_same_frame, length, refl, rules, some_frame, subst, sym, true, ◌-◌, ◌∙◌, ◌≡◌, ◌≤◌}
pub use Rattle.mig_restore.proofs.Compared.{both_compared}
