use Rattle.mig_relay.proofs.Common.{◌≡◌, HasPassed, Fits}
use Rattle.mig_relay.proofs.pass.relay.Given as goal

abbrev pub invariant-loop : goal.invariant-loop
invariant-loop g l = record {
  passed : HasPassed l.relay l.held.bytes (g.S.Source.left l.fn.src) (g.S.Source.left l.src) (g.K.Sink.written l.fn.sink) (g.K.Sink.written l.sink);
  fits : Fits l.relay l.held.bytes;
  reads : g.S.Source.faults l.src ≡ g.S.Source.faults l.fn.src;
  writes : g.K.Sink.faults l.sink ≡ g.K.Sink.faults l.fn.sink;
}
