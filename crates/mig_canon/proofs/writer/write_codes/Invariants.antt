use Rattle.mig_canon.proofs.Common.{◌≡◌, take, flat_map, Appends, records_of, text_of}
use Rattle.mig_canon.proofs.writer.write_codes.Given as goal

abbrev pub invariant-loop-code : goal.invariant-loop-code
invariant-loop-code g l = record {
  bytes : Appends (g.K.Sink.written l.fn.sink) (g.K.Sink.written l.sink) (flat_map (λ code. text_of (records_of code l.guest)) (take l.code-index l.codes));
  quiet : g.K.Sink.faults l.sink ≡ g.K.Sink.faults l.fn.sink;
}
