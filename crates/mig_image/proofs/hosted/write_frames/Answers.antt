use Rattle.mig_image.proofs.Common.{◌≡◌, ◌+◌, ◌≤◌, ◌∙◌, Appends, AppendsPart, Appends-trans, Two, all_parted, ap, arith, drop, drop-drop, flat_map, flat_more, frame_text, length, length-drop, rules, subst, sym, take, with_machines_from, AreFrames}
use Rattle.std.proofs.lemmas.List.{length-take}
use Rattle.mig_host.proofs.CountedUp.{counted_length}
use Rattle.mig_image.proofs.HostedFrames.{buffer_holds, counted_here, frames_from_place, some_frames, unwrapped}
use Rattle.mig_image.proofs.Writers.{walked}
use Rattle.mig_records_pages.proofs.Copying.{part_behind, part_front, part_none, part_same}
use Rattle.mig_image.proofs.hosted.write_frames.Goals as goal

pub pages_from-requires-clause-has : goal.pages_from-requires-clause-has
pages_from-requires-clause-has g c =
    let all = g.F.FrameSequence.frames_from c.args.frames.now 0 in
    omega (arith, ap length c.loop-done.invariant.at ∙ length-drop c.loop-done.done all, c.frame_count-total.ensures, c.min-most.ensures, c.loop-done.invariant.within)

pub returns-in_default-clause-bytes : goal.returns-in_default-clause-bytes
returns-in_default-clause-bytes g c = λ told are small.
    let all = g.F.FrameSequence.frames_from c.args.frames.now 0 in
    let ys = with_machines_from c.args.base all in
    let i = c.loop-done.done in
    let size : length ys ≡ length all = counted_length c.args.base all in
    let some = some_frames (take 1 (drop i ys)) (omega (arith, length-take 1 (drop i ys), length-drop i ys, size, c.frame_count-total.ensures, c.loop-done-test.true)) in
    part_same _ _ _ _ (all_parted (frame_text Two) i 1 ys (omega (arith, size, c.frame_count-total.ensures, c.loop-done-test.true)))
    (part_behind _ _ _ _ _ (c.loop-done.invariant.bytes told are small) (part_front _ _ _ _ (part_none _ _ some)))

pub returns-in_default-put_all-clause-bytes : goal.returns-in_default-put_all-clause-bytes
returns-in_default-put_all-clause-bytes g c = λ told are small.
    let all = g.F.FrameSequence.frames_from c.args.frames.now 0 in
    let ys = with_machines_from c.args.base all in
    let i = c.loop-done.done in let n = c.in-Ok.some in
    let fs = g.F.FrameSequence.frames_from c.args.frames.now c.loop-done.place in
    let within : i + n ≤ length all = omega (arith, c.in-Ok.ensures.few, c.min-most.ensures, c.frame_count-total.ensures, c.loop-done-test.true) in
    let machine = unwrapped c.args.base i (omega (arith, small, within, c.in-Ok.ensures.few)) in
    let holds = buffer_holds n c.in-Ok.field-0-2 c.pages_from.new.buffer fs (subst AreFrames (sym c.loop-done.invariant.at) (frames_from_place i all are)) (c.in-Ok.ensures.bytes told) in
    let text = c.fill_hosted-used.ensures.bytes holds (omega (arith, machine, small, within)) ∙ ap (λ l. flat_map (frame_text Two) (take n l)) (counted_here c.args.base i _ all fs c.loop-done.invariant.at machine) in
    part_same _ _ _ _ (all_parted (frame_text Two) i n ys (omega (arith, within, counted_length c.args.base all)))
    (part_behind _ _ _ _ _ (c.loop-done.invariant.bytes told are small) (part_front _ _ _ _ (subst (AppendsPart (g.K.Sink.written c.loop-done.sink) (g.K.Sink.written c.put_all.new.sink)) text c.in_default-put_all.ensures.bytes)))

pub loop-done-preserved : goal.loop-done-preserved
loop-done-preserved g c =
    let all = g.F.FrameSequence.frames_from c.args.frames.now 0 in
    let ys = with_machines_from c.args.base all in
    let i = c.loop-done.done in let n = c.in-Ok.some in
    let fs = g.F.FrameSequence.frames_from c.args.frames.now c.loop-done.place in
    let within : i + n ≤ length all = omega (arith, c.in-Ok.ensures.few, c.min-most.ensures, c.frame_count-total.ensures, c.loop-done-test.true) in
    record {
      at = c.in-Ok.ensures.behind ∙ ap (drop n) c.loop-done.invariant.at ∙ drop-drop n i all ∙ ap (λ m. drop (i + m) all) (sym c.from-done.ensures);
      bytes = λ told are small.
          let machine = unwrapped c.args.base i (omega (arith, small, within, c.in-Ok.ensures.few)) in
          let holds = buffer_holds n c.in-Ok.field-0-2 c.pages_from.new.buffer fs (subst AreFrames (sym c.loop-done.invariant.at) (frames_from_place i all are)) (c.in-Ok.ensures.bytes told) in
          let text = c.fill_hosted-used.ensures.bytes holds (omega (arith, machine, small, within)) ∙ ap (λ l. flat_map (frame_text Two) (take n l)) (counted_here c.args.base i _ all fs c.loop-done.invariant.at machine) in
          subst (λ m. Appends (g.K.Sink.written c.args.sink.now) (g.K.Sink.written c.put_all.new.sink) (flat_map (frame_text Two) (take (i + m) ys))) (sym c.from-done.ensures)
          (subst (Appends (g.K.Sink.written c.args.sink.now) (g.K.Sink.written c.put_all.new.sink)) (sym (flat_more (frame_text Two) i n ys)) (Appends-trans _ _ _ _ _ (c.loop-done.invariant.bytes told are small)
          (subst (Appends (g.K.Sink.written c.loop-done.sink) (g.K.Sink.written c.put_all.new.sink)) text c.in-Ok-put_all.ensures.bytes)));
      within = omega (arith, within, c.from-done.ensures, c.frame_count-total.ensures);
      pages = search rules;
      room = search rules;
      quiet = search rules;
    }

pub returns-clause-bytes : goal.returns-clause-bytes
returns-clause-bytes g c = λ told are small.
    let all = g.F.FrameSequence.frames_from c.args.frames.now 0 in
    walked (frame_text Two) (with_machines_from c.args.base all) c.loop-done.done c.frame_count-total.result _ _ (omega (arith, c.loop-done-test.false))
    (c.frame_count-total.ensures ∙ sym (counted_length c.args.base all)) (c.loop-done.invariant.bytes told are small)
