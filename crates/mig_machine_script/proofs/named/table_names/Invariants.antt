use Rattle.mig_machine_script.proofs.Common.{◌≡◌, ℕ, ◌<◌, false, machine_named, is_machine}
use Rattle.mig_machine_script.proofs.named.table_names.Given as goal

abbrev pub invariant-loop-slot : goal.invariant-loop-slot
invariant-loop-slot l = (k : ℕ) → k < l.slot → is_machine l.mfn (machine_named l.level l.page k) ≡ false
