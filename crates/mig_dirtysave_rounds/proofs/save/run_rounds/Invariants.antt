use Rattle.mig_dirtysave_rounds.proofs.Common.{◌≡◌, ◌≤◌, ◌<◌, ◌-◌, ◌+◌, ◌*◌, ◌/◌, ◌^◌, [], length, pfns_of_words, GoesOn, IsBelow, entries_read_before, notes_of, Live, SendsRounds, KeepsShape}
use Rattle.mig_dirtysave_rounds.proofs.save.run_rounds.Given as goal

abbrev pub invariant-loop-machine : goal.invariant-loop-machine
invariant-loop-machine g l =
    let first = g.M.Machine.state l.fn.machine in
    let s = g.M.Machine.state l.machine in
    record {
      live : Live s (pfns_of_words l.set);
      sent : SendsRounds l.rounds first s (pfns_of_words l.fn.set) (pfns_of_words l.set) (g.K.Sink.written l.fn.sink) (g.K.Sink.written l.sink) (notes_of l.fn.deferred l.fn.types) (notes_of l.deferred l.types);
      on : GoesOn s.host.width s.history.taken;
      number : l.rounds ≡ length s.history.taken;
      counted : l.entries ≡ entries_read_before s.host.width s.history.taken;
      small : l.entries ≤ 2 ^ 28 * l.rounds;
      few : l.rounds < 5;
      kept : KeepsShape first s;
      words : length l.set ≡ (s.host.width + 63) / 64;
      wide : length l.deferred ≡ length l.set;
      long : length l.types ≡ s.host.width;
      below : IsBelow s.host.width (pfns_of_words l.set);
      noted : IsBelow s.host.width (pfns_of_words l.deferred);
      sized : length l.set ≡ length l.fn.set;
      empty : l.batch ≡ [];
      later : g.M.Machine.Later l.fn.machine l.machine;
      machine_quiet : g.M.Machine.faults l.machine ≡ g.M.Machine.faults l.fn.machine;
      sink_quiet : g.K.Sink.faults l.sink ≡ g.K.Sink.faults l.fn.sink;
    }

abbrev pub decreases-loop-machine : goal.decreases-loop-machine
decreases-loop-machine g l = 5 - l.rounds
