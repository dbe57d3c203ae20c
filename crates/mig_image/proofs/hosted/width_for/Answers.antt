use Rattle.mig_image.proofs.Common.{◌+◌, ◌∙◌, ap, arith, sym, least_width}
use Rattle.std.proofs.Math.ListN.{drop_of_length-le}
use Rattle.mig_image.proofs.HostedFrames.{greater_is}
use Rattle.mig_image.proofs.Writers.{drop_next}
use Rattle.mig_image.proofs.hosted.width_for.Goals as goal

pub returns-in-None : goal.returns-in-None
returns-in-None g c = omega (arith, c.loop-i.invariant.width, ap least_width (sym c.loop-i.invariant.at ∙ c.in-None.ensures.none))

pub loop-i-preserved : goal.loop-i-preserved
loop-i-preserved g c =
    let all = g.F.FrameSequence.frames_from c.args.frames.now 0 in
    let here = sym c.loop-i.invariant.at ∙ c.in-Some.ensures.some.is in
    let next = drop_next c.loop-i.i all _ _ here in
    record {
      at = sym next;
      width = omega (arith, c.loop-i.invariant.width, c.max-width.ensures ∙ greater_is c.loop-i.width (c.in-Some.word.pfn + 1), ap least_width here, ap least_width next);
    }

pub returns : goal.returns
returns g c =
    let all = g.F.FrameSequence.frames_from c.args.frames.now 0 in
    omega (arith, c.loop-i.invariant.width, ap least_width (drop_of_length-le all {i = c.loop-i.i} (omega arith)))
