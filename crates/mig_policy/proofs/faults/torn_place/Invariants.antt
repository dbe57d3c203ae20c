use Rattle.mig_policy.proofs.Common.{◌≡◌, ◌≤◌, ◌-◌, false, length, texts_in, torn_at}
use Rattle.mig_policy.proofs.faults.torn_place.Given as goal

abbrev pub invariant-loop-behind : goal.invariant-loop-behind
invariant-loop-behind l = record {
  same : torn_at false 0 (texts_in l.bytes) ≡ torn_at l.odd (length l.bytes - length l.rest) (texts_in l.rest);
  within : length l.rest ≤ length l.bytes;
}

abbrev pub decreases-loop-behind : goal.decreases-loop-behind
decreases-loop-behind l = length l.rest
