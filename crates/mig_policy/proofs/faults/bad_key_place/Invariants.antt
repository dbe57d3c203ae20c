use Rattle.mig_policy.proofs.Common.{◌≡◌, ◌≤◌, ◌-◌, length, texts_in, bad_key_at}
use Rattle.mig_policy.proofs.faults.bad_key_place.Given as goal

abbrev pub invariant-loop-key : goal.invariant-loop-key
invariant-loop-key l = record {
  same : bad_key_at 0 (texts_in l.bytes) ≡ bad_key_at (length l.bytes - length l.rest) (texts_in l.rest);
  within : length l.rest ≤ length l.bytes;
}

abbrev pub decreases-loop-key : goal.decreases-loop-key
decreases-loop-key l = length l.rest
