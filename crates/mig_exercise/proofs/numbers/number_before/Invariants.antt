use Rattle.mig_exercise.proofs.Common.{◌≡◌, number, next_number}
use Rattle.mig_exercise.proofs.numbers.number_before.Given as goal

abbrev pub invariant-loop-i : goal.invariant-loop-i
invariant-loop-i l = next_number l.last ≡ number l.seed l.i
