use Rattle.mig_canon.proofs.Common.{◌≡◌, replicate, Appends}
use Rattle.mig_canon.proofs.parts.write_zeros.Given as goal

abbrev pub invariant-loop-i : goal.invariant-loop-i
invariant-loop-i g l = record {
  bytes : Appends (g.K.Sink.written l.fn.sink) (g.K.Sink.written l.sink) (replicate l.i 0);
  quiet : g.K.Sink.faults l.sink ≡ g.K.Sink.faults l.fn.sink;
}
