use Rattle.mig_image.proofs.Common.{ℕ, ◌++◌, sym, ap, ◌∙◌, arith, option_copied, HostFrame, entries_from, frame_text, Two}
use Rattle.std.specs.FinMap as maps
use Rattle.mig_image.proofs.Writers.{drop_next, ended_early, flat_next}
use Rattle.mig_image.proofs.write.fill_frames.Goals as goal

pub returns-in-None-clause-bytes : goal.returns-in-None-clause-bytes
returns-in-None-clause-bytes c =
    absurd (ended_early c.loop-i.i c.args.count (entries_from c.args.start (maps.entries c.args.host.now.host.frames)) (sym c.loop-i.invariant.at ∙ c.in-None.ensures.next) c.loop-i-test.true c.requires.has)

pub returns-in-None-clause-next : goal.returns-in-None-clause-next
returns-in-None-clause-next c =
    absurd (ended_early c.loop-i.i c.args.count (entries_from c.args.start (maps.entries c.args.host.now.host.frames)) (sym c.loop-i.invariant.at ∙ c.in-None.ensures.next) c.loop-i-test.true c.requires.has)

pub loop-i-preserved : goal.loop-i-preserved
loop-i-preserved c =
    let all = entries_from c.args.start (maps.entries c.args.host.now.host.frames) in
    let e : ℕ × HostFrame = (c.in-Some.pfn, record { type = c.in-Some.kind; machine = c.in-Some.machine; page = option_copied c.in-Some.page }) in
    let here = sym c.loop-i.invariant.at ∙ c.in-Some.ensures.next in
    record {
      at = sym (drop_next c.loop-i.i all _ e here);
      bytes = c.put_frame-used.ensures.bytes ∙ ap (λ l. l ++ frame_text Two e) c.loop-i.invariant.bytes ∙ sym (flat_next (frame_text Two) all c.loop-i.i e _ here);
      few = omega arith;
      room = c.put_frame-used.ensures.room ∙ c.loop-i.invariant.room;
    }
