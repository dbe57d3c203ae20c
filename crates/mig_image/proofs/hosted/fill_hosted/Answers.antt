use Rattle.mig_image.proofs.Common.{ℕ, ◌+◌, ◌-◌, ◌%◌, ◌^◌, ◌++◌, ◌∷◌, ◌≡◌, ap, arith, sym, take, subst, HostFrame, option_copied, ◌∙◌, Two, frame_text, with_machines_from, with_machine, HoldsPages}
use Rattle.mig_image.proofs.HostedFrames.{counted_next, page_is, pages_behind, taken_next, unwrapped}
use Rattle.mig_image.proofs.Writers.{drop_next, ended_early, flat_next}
use Rattle.mig_records_pages.specs.PageData.{Frame}
use Rattle.mig_image.proofs.hosted.fill_hosted.Goals as goal

pub returns-in-None-clause-bytes : goal.returns-in-None-clause-bytes
returns-in-None-clause-bytes g c =
    absurd (ended_early c.loop-i.i c.args.count (g.F.FrameSequence.frames_from c.args.frames.now c.args.start) (sym c.loop-i.invariant.at ∙ c.in-None.ensures.none) c.loop-i-test.true c.requires.has)

pub loop-i-preserved : goal.loop-i-preserved
loop-i-preserved g c =
    let fs = g.F.FrameSequence.frames_from c.args.frames.now c.args.start in
    let i = c.loop-i.i in let n = c.args.count in
    let first = c.in-Some.ensures.some in
    let f : Frame = (c.in-Some.word.pfn, first.frame) in
    let rest = g.F.FrameSequence.frames_from c.args.frames.now c.in-Some.behind in
    let here = sym c.loop-i.invariant.at ∙ first.is in
    let taken = taken_next i n fs rest f here c.loop-i-test.true in
    let held : HoldsPages c.args.pages.now (take n fs) → HoldsPages _ (f ∷ take (n - i - 1) rest) = λ holds. subst (HoldsPages _) taken (c.loop-i.invariant.pages holds) in
    record {
      at = sym (drop_next i fs _ f here);
      pages = λ holds. subst (HoldsPages _) (sym (drop_next i (take n fs) _ f taken)) (pages_behind c.args.pages.now f _ c.loop-i.taken c.in-Some.some first.size (held holds));
      bytes = λ holds small.
          let page = page_is c.args.pages.now f _ c.loop-i.taken c.in-Some.some first.size (held holds) (option_copied c.page_at-page.result) first.few c.page_at-page.ensures.none c.page_at-page.ensures.page in
          let mfn : (c.args.machine + c.from.result) % 2 ^ 64 ≡ c.args.machine + i = ap (λ n. (c.args.machine + n) % 2 ^ 64) c.from.ensures ∙ unwrapped c.args.machine i (omega (arith, small, c.loop-i-test.true)) in
          let e : ℕ × HostFrame = (f.0, with_machine f.1 (c.args.machine + i)) in
          let said : (c.in-Some.word.pfn, record { type = c.in-Some.word.kind; machine = (c.args.machine + c.from.result) % 2 ^ 64; page = option_copied c.page_at-page.result }) ≡ e = λ j. (f.0, record { type = sym first.type j; machine = mfn j; page = page j }) in
          c.put_frame-used.ensures.bytes ∙ ap (λ x. take c.loop-i.used c.loop-i.buffer ++ frame_text Two x) said ∙ ap (λ l. l ++ frame_text Two e) (c.loop-i.invariant.bytes holds small)
          ∙ sym (flat_next (frame_text Two) (with_machines_from c.args.machine fs) i e _ (counted_next i c.args.machine fs rest f here));
      behind = omega (arith, first.few, c.loop-i.invariant.behind);
      few = omega (arith, c.put_frame-used.ensures.most, c.loop-i.invariant.few);
      room = c.put_frame-used.ensures.room ∙ c.loop-i.invariant.room;
    }
