use Rattle.mig_image.proofs.Common.{◌≡◌, take, drop, flat_map, Appends, parts_behind, part_text}
use Rattle.std.specs.FinMap as maps
use Rattle.mig_image.proofs.write.write_parts.Given as goal

abbrev pub invariant-loop : goal.invariant-loop
invariant-loop g l = record {
  at : parts_behind l.after (maps.entries l.parts) ≡ drop l.counter (maps.entries l.parts);
  bytes : Appends (g.K.Sink.written l.fn.sink) (g.K.Sink.written l.sink) (flat_map part_text (take l.counter (maps.entries l.parts)));
  quiet : g.K.Sink.faults l.sink ≡ g.K.Sink.faults l.fn.sink;
}
