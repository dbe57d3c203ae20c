use Rattle.mig_dirtysave_rounds.proofs.Common.{ℕ, Option, ◌≡◌, ◌-◌, List, [], ◌≤◌, ◌<◌, length, true, FrameTold, IsSent, pfns_of_words, IsBelow, notes_of, ReadsFront, SendsFront, IsWorst}
use Rattle.mig_dirtysave_rounds.proofs.round.send_all.Given as goal

abbrev pub invariant-members : goal.invariant-members
invariant-members g l =
    let s = g.M.Machine.state l.fn.machine in
    let t = g.M.Machine.state l.machine in
    let set = pfns_of_words l.set in
    record {
      reads : ReadsFront l.from set s t;
      sends : (start : Option (List ℕ)) (n : ℕ) (before : List FrameTold) → IsSent start (g.K.Sink.written l.fn.sink) n [] before → (mid : List FrameTold) × IsSent start (g.K.Sink.written l.sink) n l.batch mid
          × SendsFront l.from set s t before mid (notes_of l.fn.deferred l.fn.types) (notes_of l.deferred l.types);
      worst : s.paused ≡ true → IsWorst l.from set t.host.frames l.worst;
      end : l.from ≤ s.host.width;
      wide : length l.deferred ≡ length l.set;
      long : length l.types ≡ s.host.width;
      noted : IsBelow s.host.width (pfns_of_words l.deferred);
      few : length l.batch < 1024;
      later : g.M.Machine.Later l.fn.machine l.machine;
      machine_quiet : g.M.Machine.faults l.machine ≡ g.M.Machine.faults l.fn.machine;
      sink_quiet : g.K.Sink.faults l.sink ≡ g.K.Sink.faults l.fn.sink;
    }

abbrev pub decreases-members : goal.decreases-members
decreases-members g l = (g.M.Machine.state l.fn.machine).host.width - l.from
