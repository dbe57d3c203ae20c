use Rattle.mig_canon.proofs.Common.{◌≡◌, List, ◌++◌, length, IfSome, flat_map, Appends, code_number, Part, parts_after, shape_of, parts_at, piece}
use Rattle.std.specs.FinMap as maps
use Rattle.mig_canon.proofs.parts.write_pieces.Given as goal

abbrev pub invariant-loop-key : goal.invariant-loop-key
invariant-loop-key g l = record {
  code : IfSome l.after (λ k. k.code ≡ code_number l.code);
  bytes : (done : List Part) × (parts_at l.code l.guest ≡ done ++ parts_after (code_number l.code) l.after (maps.entries l.guest.parts)) × Appends (g.K.Sink.written l.fn.sink) (g.K.Sink.written l.sink) (flat_map (piece (shape_of l.code) (code_number l.code)) done);
  quiet : g.K.Sink.faults l.sink ≡ g.K.Sink.faults l.fn.sink;
}

abbrev pub decreases-loop-key : goal.decreases-loop-key
decreases-loop-key g l = length (parts_after (code_number l.code) l.after (maps.entries l.guest.parts))
