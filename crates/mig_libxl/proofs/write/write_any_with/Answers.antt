use Rattle.mig_libxl.proofs.Around.{with_other_frames}
use Rattle.mig_libxl.proofs.Common.{subst, sym}
use Rattle.std.specs.Io.KnownBytes.{Appends}
use Rattle.std.proofs.KnownBytes.{Appends-trans}
use Rattle.mig_records_pages.proofs.Copying.{part_front, part_behind, part_same}
use Rattle.mig_libxl.proofs.write.write_any_with.Goals as goal

pub returns-in_default-clause-bytes : goal.returns-in_default-clause-bytes
returns-in_default-clause-bytes g c = λ map is told. part_same _ _ _ _ (with_other_frames c.args.guest.now map) (part_front _ _ _ _ c.in_default.ensures.bytes)

pub returns-in-Err-clause-bytes : goal.returns-in-Err-clause-bytes
returns-in-Err-clause-bytes g c = λ map is told.
    part_same _ _ _ _ (with_other_frames c.args.guest.now map) (part_behind _ _ _ _ _ c.in-Ok.ensures.bytes (part_front _ _ _ _ (c.in-Err.ensures.bytes map is told)))

pub returns-in-Ok-write_closing-clause-bytes : goal.returns-in-Ok-write_closing-clause-bytes
returns-in-Ok-write_closing-clause-bytes g c = λ map is told.
    subst (Appends _ _) (sym (with_other_frames c.args.guest.now map))
    (Appends-trans _ _ _ _ _ c.in-Ok.ensures.bytes (Appends-trans _ _ _ _ _ (c.in-Ok-write_canon_with.ensures.bytes map is told) c.in-Ok-write_closing.ensures.bytes))

pub returns-in-Err-write_closing-clause-bytes : goal.returns-in-Err-write_closing-clause-bytes
returns-in-Err-write_closing-clause-bytes g c = λ map is told.
    part_same _ _ _ _ (with_other_frames c.args.guest.now map)
    (part_behind _ _ _ _ _ c.in-Ok.ensures.bytes (part_behind _ _ _ _ _ (c.in-Ok-write_canon_with.ensures.bytes map is told) c.in-Err-write_closing.ensures.bytes))
