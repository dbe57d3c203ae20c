use Rattle.mig_image.proofs.Common.{◌≡◌, ◌≤◌, ◌+◌, ◌*◌, ◌^◌, length, take, drop, flat_map, with_machines_from, frame_text, HoldsPages, Two}
use Rattle.mig_image.proofs.hosted.fill_hosted.Given as goal

abbrev pub invariant-loop-i : goal.invariant-loop-i
invariant-loop-i g l = record {
  at : g.F.FrameSequence.frames_from l.frames l.place ≡ drop l.i (g.F.FrameSequence.frames_from l.frames l.start);
  pages : HoldsPages l.pages (take l.count (g.F.FrameSequence.frames_from l.frames l.start)) → HoldsPages (drop l.taken l.pages) (drop l.i (take l.count (g.F.FrameSequence.frames_from l.frames l.start)));
  bytes : HoldsPages l.pages (take l.count (g.F.FrameSequence.frames_from l.frames l.start)) → l.machine + l.count ≤ 2 ^ 64
      → take l.used l.buffer ≡ flat_map (frame_text Two) (take l.i (with_machines_from l.machine (g.F.FrameSequence.frames_from l.frames l.start)));
  behind : l.taken ≤ 4096 * l.i;
  few : l.used ≤ 4112 * l.i;
  room : length l.buffer ≡ length l.fn.buffer;
}
