use Rattle.mig_canon.proofs.Common.{◌≡◌, Appends, text_of, vcpus_below}
use Rattle.mig_canon.proofs.pv.write_vcpus.Given as goal

abbrev pub invariant-loop-id : goal.invariant-loop-id
invariant-loop-id g l = record {
  bytes : Appends (g.K.Sink.written l.fn.sink) (g.K.Sink.written l.sink) (text_of (vcpus_below l.guest l.id));
  quiet : g.K.Sink.faults l.sink ≡ g.K.Sink.faults l.fn.sink;
}
