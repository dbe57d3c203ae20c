use Rattle.mig_image.proofs.Common.{◌≡◌, ◌≤◌, ◌+◌, ◌-◌, ◌^◌, true, length, take, drop, flat_map, Appends, with_machines_from, frame_text, AreFrames, Two}
use Rattle.mig_image.proofs.hosted.write_frames.Given as goal

abbrev pub invariant-loop-done : goal.invariant-loop-done
invariant-loop-done g l = record {
  at : g.F.FrameSequence.frames_from l.frames l.place ≡ drop l.done (g.F.FrameSequence.frames_from l.frames 0);
  bytes : g.F.FrameSequence.told l.frames ≡ true → AreFrames (g.F.FrameSequence.frames_from l.frames 0) → l.base + length (g.F.FrameSequence.frames_from l.frames 0) ≤ 2 ^ 64
      → Appends (g.K.Sink.written l.fn.sink) (g.K.Sink.written l.sink) (flat_map (frame_text Two) (take l.done (with_machines_from l.base (g.F.FrameSequence.frames_from l.frames 0))));
  within : l.done ≤ l.total;
  pages : length l.pages ≡ 131072;
  room : length l.buffer ≡ 131584;
  quiet : g.K.Sink.faults l.sink ≡ g.K.Sink.faults l.fn.sink;
}

abbrev pub decreases-loop-done : goal.decreases-loop-done
decreases-loop-done g l = l.total - l.done
