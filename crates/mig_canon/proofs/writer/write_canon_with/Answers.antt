use Rattle.mig_canon.proofs.Common.{ℕ, List, Appends, AppendsPart, Appends-trans, Frame, text_of, frame_bodies, batches, sym, subst}
use Rattle.mig_records_pages.proofs.Copying.{part_front, part_behind, part_same}
use Rattle.mig_canon.proofs.Elsewhere.{image_parts}
use Rattle.mig_canon.proofs.writer.write_canon_with.Goals as goal

-- the text of these frames is that of the map's
abbrev text_for : List Frame → List ℕ
text_for fs = text_of (frame_bodies fs (batches fs))

pub returns-in_default-clause-bytes : goal.returns-in_default-clause-bytes
returns-in_default-clause-bytes g c = λ map is told.
    part_same _ _ _ _ (image_parts c.args.guest.now map) (part_front _ _ _ _ c.in_default.ensures.bytes)

pub returns-in-Err-clause-bytes : goal.returns-in-Err-clause-bytes
returns-in-Err-clause-bytes g c = λ map is told.
    part_same _ _ _ _ (image_parts c.args.guest.now map)
    (part_behind _ _ _ _ _ c.in-Ok.ensures.bytes (part_front _ _ _ _ (subst (λ (fs : List Frame). AppendsPart (g.K.Sink.written c.write_before.new.sink) (g.K.Sink.written c.write_frames.new.sink) (text_for fs)) is (c.in-Err.ensures.bytes told))))

pub returns-in-Ok-write_behind-clause-bytes : goal.returns-in-Ok-write_behind-clause-bytes
returns-in-Ok-write_behind-clause-bytes g c = λ map is told.
    subst (Appends _ _) (sym (image_parts c.args.guest.now map))
    (Appends-trans _ _ _ _ _ c.in-Ok.ensures.bytes (Appends-trans _ _ _ _ _
    (subst (λ (fs : List Frame). Appends (g.K.Sink.written c.write_before.new.sink) (g.K.Sink.written c.write_frames.new.sink) (text_for fs)) is (c.in-Ok-write_frames.ensures.bytes told)) c.in-Ok-write_behind.ensures.bytes))

pub returns-in-Err-write_behind-clause-bytes : goal.returns-in-Err-write_behind-clause-bytes
returns-in-Err-write_behind-clause-bytes g c = λ map is told.
    part_same _ _ _ _ (image_parts c.args.guest.now map)
    (part_behind _ _ _ _ _ c.in-Ok.ensures.bytes (part_behind _ _ _ _ _
    (subst (λ (fs : List Frame). Appends (g.K.Sink.written c.write_before.new.sink) (g.K.Sink.written c.write_frames.new.sink) (text_for fs)) is (c.in-Ok-write_frames.ensures.bytes told)) c.in-Err-write_behind.ensures.bytes))
