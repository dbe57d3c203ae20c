use Rattle.mig_relay_bodies.proofs.Common.{◌≡◌, ℕ, ◌+◌, ◌*◌, ◌-◌, length, fault_of_entries, HvmParam, params}
use Rattle.mig_relay_bodies.proofs.front.params_fault.Given as goal

abbrev pub invariant-loop-i : goal.invariant-loop-i
invariant-loop-i l = record {
  whole : length l.rest + 16 * l.i ≡ length l.bytes;
  same : (n : ℕ) → length l.bytes ≡ 16 * n → fault_of_entries HvmParam params (n - l.i) l.rest ≡ fault_of_entries HvmParam params n l.bytes;
}
