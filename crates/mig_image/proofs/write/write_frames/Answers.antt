use Rattle.mig_image.proofs.Common.{length, take, drop, sym, ap, subst, ◌∙◌, rules, arith, drop-drop, length-drop, flat_map, Appends, AppendsPart, puts_then, puts_stop, puts_same, flat_more, all_parted, frame_text, Two, Appends-trans}
use Rattle.std.specs.FinMap as maps
use Rattle.mig_guest.proofs.NextEntries.{from_zero}
use Rattle.mig_image.proofs.Writers.{walked}
use Rattle.mig_image.proofs.write.write_frames.Goals as goal

pub loop-done-init : goal.loop-done-init
loop-done-init g c = record { at = from_zero (maps.entries c.args.host.now.host.frames); bytes = search rules; within = omega arith; room = search rules; quiet = search rules }

pub fill_frames-next-requires-clause-has : goal.fill_frames-next-requires-clause-has
fill_frames-next-requires-clause-has g c =
    let all = maps.entries c.args.host.now.host.frames in
    omega (arith, ap length c.loop-done.invariant.at ∙ length-drop c.loop-done.done all, c.frames-total.ensures ∙ maps.len-entries c.args.host.now.host.frames)

pub returns-in_err-put_all-clause-bytes : goal.returns-in_err-put_all-clause-bytes
returns-in_err-put_all-clause-bytes g c =
    let all = maps.entries c.args.host.now.host.frames in
    let r = c.from_residual.result in
    let text = c.fill_frames-next.ensures.bytes ∙ ap (λ l. flat_map (frame_text Two) (take c.min-some.result l)) c.loop-done.invariant.at in
    puts_same _ _ _ _ r (all_parted (frame_text Two) c.loop-done.done c.min-some.result all (omega (arith, c.frames-total.ensures ∙ maps.len-entries c.args.host.now.host.frames)))
    (puts_then _ _ _ _ _ r c.loop-done.invariant.bytes (puts_stop _ _ _ _ _ _ r c.from_residual.ensures.1 (subst (AppendsPart _ _) text c.in_err-put_all.ensures.bytes)))

pub loop-done-preserved : goal.loop-done-preserved
loop-done-preserved g c =
    let all = maps.entries c.args.host.now.host.frames in
    let text = c.fill_frames-next.ensures.bytes ∙ ap (λ l. flat_map (frame_text Two) (take c.min-some.result l)) c.loop-done.invariant.at in
    record {
      at = c.fill_frames-next.ensures.next ∙ ap (drop c.min-some.result) c.loop-done.invariant.at ∙ drop-drop c.min-some.result c.loop-done.done all;
      bytes = subst (Appends _ _) (sym (flat_more (frame_text Two) c.loop-done.done c.min-some.result all)) (Appends-trans _ _ _ _ _ c.loop-done.invariant.bytes (subst (Appends _ _) text c.in_ok-put_all.ensures.bytes));
      within = omega arith;
      room = search rules;
      quiet = search rules;
    }

pub returns-clause-bytes : goal.returns-clause-bytes
returns-clause-bytes g c =
    walked (frame_text Two) (maps.entries c.args.host.now.host.frames) c.loop-done.done c.frames-total.result _ _ (omega (arith, c.loop-done-test.false)) (c.frames-total.ensures ∙ maps.len-entries c.args.host.now.host.frames) c.loop-done.invariant.bytes
