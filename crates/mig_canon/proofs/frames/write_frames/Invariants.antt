use Rattle.mig_canon.proofs.Common.{◌≡◌, ◌*◌, length, take, drop, true, Appends, batches, text_of, frame_bodies, most_entries}
use Rattle.mig_canon.proofs.frames.write_frames.Given as goal

abbrev pub invariant-loop-k : goal.invariant-loop-k
invariant-loop-k g l = record {
  at : g.F.FrameSequence.frames_from l.frames l.from ≡ drop (most_entries * l.k) (g.F.FrameSequence.frames_from l.frames 0);
  bytes : g.F.FrameSequence.told l.frames ≡ true
      → Appends (g.K.Sink.written l.fn.sink) (g.K.Sink.written l.sink) (text_of (take l.k (frame_bodies (g.F.FrameSequence.frames_from l.frames 0) (batches (g.F.FrameSequence.frames_from l.frames 0)))));
  room : length l.buffer ≡ length l.fn.buffer;
  quiet : g.K.Sink.faults l.sink ≡ g.K.Sink.faults l.fn.sink;
}
