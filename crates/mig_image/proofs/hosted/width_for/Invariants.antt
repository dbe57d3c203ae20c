use Rattle.mig_image.proofs.Common.{◌≡◌, drop, max, least_width}
use Rattle.mig_image.proofs.hosted.width_for.Given as goal

abbrev pub invariant-loop-i : goal.invariant-loop-i
invariant-loop-i g l = record {
  at : g.F.FrameSequence.frames_from l.frames l.place ≡ drop l.i (g.F.FrameSequence.frames_from l.frames 0);
  width : least_width (g.F.FrameSequence.frames_from l.frames 0) ≡ max l.width (least_width (drop l.i (g.F.FrameSequence.frames_from l.frames 0)));
}
