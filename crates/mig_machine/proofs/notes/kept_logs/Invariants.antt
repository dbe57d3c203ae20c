use Rattle.mig_machine.proofs.Common.{◌≡◌, ◌+◌, ◌/◌, length, All}
use Rattle.mig_machine.proofs.notes.kept_logs.Given as goal

abbrev pub invariant-loop-place : goal.invariant-loop-place
invariant-loop-place l = record {
  number : length l.logs.items ≡ l._place;
  sizes : All (λ log. (length log.read.items ≡ (l.width + 63) / 64) × (length log.log.items ≡ (l.width + 63) / 64)) l.logs.items;
}
