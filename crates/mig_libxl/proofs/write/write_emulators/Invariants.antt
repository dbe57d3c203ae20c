use Rattle.mig_libxl.proofs.Common.{◌≡◌, ◌++◌, List, length, Part, IfSome, Appends, emulators_after, emulators_in_order, text_of_emulators}
use Rattle.mig_libxl.proofs.write.write_emulators.Given as goal

abbrev pub invariant-loop-key : goal.invariant-loop-key
invariant-loop-key g l = record {
  pairs : IfSome l.pairs (λ k. k.code ≡ 258);
  context : IfSome l.context (λ k. k.code ≡ 259);
  bytes : (done : List Part) × (emulators_in_order l.guest.parts ≡ done ++ emulators_after l.guest.parts l.pairs l.context) × Appends (g.K.Sink.written l.fn.sink) (g.K.Sink.written l.sink) (text_of_emulators done);
  quiet : g.K.Sink.faults l.sink ≡ g.K.Sink.faults l.fn.sink;
}

abbrev pub decreases-loop-key : goal.decreases-loop-key
decreases-loop-key g l = length (emulators_after l.guest.parts l.pairs l.context)
