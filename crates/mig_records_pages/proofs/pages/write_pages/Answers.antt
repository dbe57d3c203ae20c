use Rattle.mig_records_pages.proofs.Common.{◌-◌, length, take, drop, sym, ap, subst, ◌∙◌, rules, arith, drop-drop, length-drop, Appends, Appends-trans, AppendsPart, flat_more, page_in, pages_of}
use Rattle.mig_records_pages.proofs.Copying.{part_of_more}
use Rattle.mig_records_pages.proofs.pages.write_pages.Goals as goal

pub write_some-requires-clause-has : goal.write_some-requires-clause-has
write_some-requires-clause-has g c =
    let all = g.F.FrameSequence.frames_from c.args.frames.now c.args.start in
    omega (arith, ap length c.loop-done.invariant.at, length-drop c.loop-done.done all, c.requires.has)

pub returns-in-Err-clause-bytes : goal.returns-in-Err-clause-bytes
returns-in-Err-clause-bytes g c = λ told.
    let all = g.F.FrameSequence.frames_from c.args.frames.now c.args.start in let i = c.loop-done.done in let n = c.args.count - i in
    part_of_more i n c.args.count all _ _ _ (omega (arith, c.loop-done.invariant.within)) (c.loop-done.invariant.bytes told)
    (subst (AppendsPart _ _) (ap (λ l. pages_of (take n l)) c.loop-done.invariant.at) (c.in-Err.ensures.err told))

pub loop-done-preserved : goal.loop-done-preserved
loop-done-preserved g c =
    let all = g.F.FrameSequence.frames_from c.args.frames.now c.args.start in let wrote = c.in-Ok.ensures in let i = c.loop-done.done in let n = c.in-Ok.some in
    record {
      at = wrote.behind ∙ ap (drop n) c.loop-done.invariant.at ∙ drop-drop n i all;
      bytes = λ told. subst (Appends _ _) (sym (flat_more page_in i n all))
          (Appends-trans _ _ _ _ _ (c.loop-done.invariant.bytes told) (subst (Appends _ _) (ap (λ l. pages_of (take n l)) c.loop-done.invariant.at) (wrote.ok told)));
      within = omega (arith, wrote.few, c.loop-done.invariant.within);
      room = search rules;
      quiet = search rules;
    }
