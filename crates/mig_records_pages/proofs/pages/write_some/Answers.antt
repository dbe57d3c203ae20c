use Rattle.mig_records_pages.proofs.Common.{subst, arith, take, Appends-nil, AppendsPart, pages_of}
use Rattle.mig_records_pages.proofs.Copying.{part_none, part_of_more, some_of_more}
use Rattle.mig_records_pages.proofs.pages.write_some.Goals as goal

pub returns-in-Err-clause-err : goal.returns-in-Err-clause-err
returns-in-Err-clause-err g c = λ told.
    let all = g.F.FrameSequence.frames_from c.args.frames.now c.args.place in
    part_of_more 0 c.run_from-behind.result.1 c.args.most all _ _ _ (omega (arith, c.run_from-behind.ensures.most)) (Appends-nil _)
    (subst (AppendsPart (g.K.Sink.written c.args.sink.now) (g.K.Sink.written c.put_all.new.sink)) c.run_from-behind.ensures.bytes c.in-Err.ensures.bytes)

pub returns-in_default-clause-err : goal.returns-in_default-clause-err
returns-in_default-clause-err g c = λ told.
    let all = g.F.FrameSequence.frames_from c.args.frames.now c.args.place in
    part_none (pages_of (take c.args.most all)) _ (some_of_more 0 c.min-some.result c.args.most all (omega (arith, c.min-some.ensures)) c.in_default.ensures.wanted)

pub returns-in-Err-put_all-clause-err : goal.returns-in-Err-put_all-clause-err
returns-in-Err-put_all-clause-err g c = λ told.
    let all = g.F.FrameSequence.frames_from c.args.frames.now c.args.place in
    part_of_more 0 c.min-some.result c.args.most all _ _ _ (omega (arith, c.min-some.ensures)) (Appends-nil _)
    (subst (AppendsPart (g.K.Sink.written c.args.sink.now) (g.K.Sink.written c.put_all-2.new.sink)) (c.in-Ok-gather_pages.ensures.bytes told) c.in-Err-put_all.ensures.bytes)
