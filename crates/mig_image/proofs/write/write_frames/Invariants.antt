use Rattle.mig_image.proofs.Common.{◌≡◌, ◌≤◌, ◌-◌, length, take, drop, flat_map, Appends, entries_from, frame_text, Two}
use Rattle.std.specs.FinMap as maps
use Rattle.mig_image.proofs.write.write_frames.Given as goal

abbrev pub invariant-loop-done : goal.invariant-loop-done
invariant-loop-done g l = record {
  at : entries_from l.from (maps.entries l.host.host.frames) ≡ drop l.done (maps.entries l.host.host.frames);
  bytes : Appends (g.K.Sink.written l.fn.sink) (g.K.Sink.written l.sink) (flat_map (frame_text Two) (take l.done (maps.entries l.host.host.frames)));
  within : l.done ≤ l.total;
  room : length l.buffer ≡ 131584;
  quiet : g.K.Sink.faults l.sink ≡ g.K.Sink.faults l.fn.sink;
}

abbrev pub decreases-loop-done : goal.decreases-loop-done
decreases-loop-done g l = l.total - l.done
