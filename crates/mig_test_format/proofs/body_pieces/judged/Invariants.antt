use Rattle.std.proofs.Common.{◌≡◌, ℕ, ◌-◌, ◌≤◌, List, [], length, take, Option}
use Rattle.mig_headers.specs.declared.fault.Cause.{Cause}
use Rattle.mig_relay_bodies.specs.Begun.{IsBegunBody}
use Rattle.mig_test_format.proofs.body_pieces.judged.Given as goal

abbrev pub invariant-loop-known : goal.invariant-loop-known
invariant-loop-known l = record {
  len : l.known.len ≡ length l.body;
  within : l.known.taken ≤ l.known.len;
  begun : (fault : List ℕ → Option Cause) → IsBegunBody l.fn.seen fault [] → IsBegunBody l.known fault (take l.known.taken l.body);
}

abbrev pub decreases-loop-known : goal.decreases-loop-known
decreases-loop-known l = l.known.len - l.known.taken
