use Rattle.mig_records_pages.proofs.Common.{◌-◌, ◌*◌, take, drop, refl, ap, ◌∙◌, rules, arith, drop-drop, length, length-drop, length-take, pages_of}
use Rattle.mig_records_pages.proofs.Copying.{pages_gathered, some_of_more}
use Rattle.mig_records_pages.proofs.pages.gather_pages.Goals as goal

pub loop-done-preserved : goal.loop-done-preserved
loop-done-preserved g c =
    let all = g.F.FrameSequence.frames_from c.args.frames.now c.args.start in
    let i = c.loop-done.done in let n = c.in-Ok.some in let at = 4096 * c.loop-done.pages in
    let buf = c.loop-done.buffer in let slice = c.pages_from.new.buffer in
    let put = c.in-Ok.ensures in
    record {
      at = put.behind ∙ ap (drop n) c.loop-done.invariant.at ∙ drop-drop n i all;
      bytes = λ told. pages_gathered i n c.loop-done.pages c.in-Ok.more all buf slice (drop (length buf - at) (drop at buf)) _ refl
          (omega (arith, c.loop-done.invariant.room, c.requires.room, c.loop-done.invariant.few, c.loop-done.invariant.within))
          (omega (arith, put.room, length-take (length buf - at) (drop at buf), length-drop at buf, put.few, c.loop-done.invariant.room, c.requires.room, c.loop-done.invariant.few, c.loop-done.invariant.within))
          (c.loop-done.invariant.bytes told) (put.bytes told ∙ ap (λ l. pages_of (take n l)) c.loop-done.invariant.at);
      within = omega (arith, put.few, c.loop-done.invariant.within);
      few = omega (arith, put.few, c.loop-done.invariant.few);
      room = search rules;
    }

pub returns-in-Err-clause-wanted : goal.returns-in-Err-clause-wanted
returns-in-Err-clause-wanted g c =
    let all = g.F.FrameSequence.frames_from c.args.frames.now c.args.start in let i = c.loop-done.done in
    some_of_more i (c.args.count - i) c.args.count all (omega (arith, c.loop-done.invariant.within))
    (rw c.loop-done.invariant.at at c.in-Err.ensures.wanted)
