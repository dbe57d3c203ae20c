use Rattle.mig_exercise.proofs.Common.{◌≡◌, ◌+◌, ◌*◌, map, line_said, number, next_number, data_count}
use Rattle.mig_exercise.specs.ExerciseScripts.{writes_up_to}
use Rattle.mig_exercise.proofs.script.exercise_script.Given as goal

abbrev pub invariant-loop-i : goal.invariant-loop-i
invariant-loop-i l = record {
  last : next_number l.number ≡ number l.seed (data_count l.frames + 2 * l.i);
  lines : map line_said l.lines.items ≡ writes_up_to l.seed l.frames l.i;
}
