use Rattle.mig_records_pages.proofs.Common.{◌≡◌, ◌≤◌, ◌-◌, true, length, take, drop, Appends, pages_of}
use Rattle.mig_records_pages.proofs.pages.write_pages.Given as goal

abbrev pub invariant-loop-done : goal.invariant-loop-done
invariant-loop-done g l = record {
  at : g.F.FrameSequence.frames_from l.frames l.place ≡ drop l.done (g.F.FrameSequence.frames_from l.frames l.start);
  bytes : g.F.FrameSequence.told l.frames ≡ true → Appends (g.K.Sink.written l.fn.sink) (g.K.Sink.written l.sink) (pages_of (take l.done (g.F.FrameSequence.frames_from l.frames l.start)));
  within : l.done ≤ l.count;
  room : length l.buffer ≡ length l.fn.buffer;
  quiet : g.K.Sink.faults l.sink ≡ g.K.Sink.faults l.fn.sink;
}

abbrev pub decreases-loop-done : goal.decreases-loop-done
decreases-loop-done g l = l.count - l.done
