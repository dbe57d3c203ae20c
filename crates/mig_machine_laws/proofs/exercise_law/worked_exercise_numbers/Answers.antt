use Rattle.mig_machine_laws.proofs.WorkedExercise.{numbers, writes, script, bounds}
use Rattle.mig_machine_laws.proofs.exercise_law.worked_exercise_numbers.Goals as goal

pub returns-clause-numbers : goal.returns-clause-numbers
returns-clause-numbers c = numbers

pub returns-clause-writes : goal.returns-clause-writes
returns-clause-writes c = writes

pub returns-clause-script : goal.returns-clause-script
returns-clause-script c = script

pub returns-clause-bounds : goal.returns-clause-bounds
returns-clause-bounds c = bounds
