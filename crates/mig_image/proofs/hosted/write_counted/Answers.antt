use Rattle.mig_image.proofs.Common.{sym, subst, Appends, Appends-trans}
use Rattle.mig_image.proofs.HostedFrames.{pieces_are}
use Rattle.mig_records_pages.proofs.Copying.{part_behind, part_front, part_same}
use Rattle.mig_image.proofs.hosted.write_counted.Goals as goal

pub returns-in_default-clause-bytes : goal.returns-in_default-clause-bytes
returns-in_default-clause-bytes g c = λ told are fit.
    part_same _ _ _ _ (pieces_are c.args.kind c.args.width c.args.base _ c.args.parts.now c.head_bytes-head.result c.frame_count.result c.head_bytes-head.ensures c.frame_count.ensures)
    (part_front _ _ _ _ c.in_default.ensures.bytes)

pub returns-in-Err-clause-bytes : goal.returns-in-Err-clause-bytes
returns-in-Err-clause-bytes g c = λ told are fit.
    part_same _ _ _ _ (pieces_are c.args.kind c.args.width c.args.base _ c.args.parts.now c.head_bytes-head.result c.frame_count.result c.head_bytes-head.ensures c.frame_count.ensures)
    (part_behind _ _ _ _ _ c.in-Ok.ensures.bytes (part_front _ _ _ _ (c.in-Err.ensures.bytes told are fit)))

pub returns-in-Ok-write_behind-clause-bytes : goal.returns-in-Ok-write_behind-clause-bytes
returns-in-Ok-write_behind-clause-bytes g c = λ told are fit.
    subst (Appends _ _) (sym (pieces_are c.args.kind c.args.width c.args.base _ c.args.parts.now c.head_bytes-head.result c.frame_count.result c.head_bytes-head.ensures c.frame_count.ensures))
    (Appends-trans _ _ _ _ _ c.in-Ok.ensures.bytes (Appends-trans _ _ _ _ _ (c.in-Ok-write_frames.ensures.bytes told are fit) c.in-Ok-write_behind.ensures.bytes))

pub returns-in-Err-write_behind-clause-bytes : goal.returns-in-Err-write_behind-clause-bytes
returns-in-Err-write_behind-clause-bytes g c = λ told are fit.
    part_same _ _ _ _ (pieces_are c.args.kind c.args.width c.args.base _ c.args.parts.now c.head_bytes-head.result c.frame_count.result c.head_bytes-head.ensures c.frame_count.ensures)
    (part_behind _ _ _ _ _ c.in-Ok.ensures.bytes (part_behind _ _ _ _ _ (c.in-Ok-write_frames.ensures.bytes told are fit) c.in-Err-write_behind.ensures.bytes))
