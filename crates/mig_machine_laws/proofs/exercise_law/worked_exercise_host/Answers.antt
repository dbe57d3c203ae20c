use Rattle.mig_machine_laws.proofs.WorkedExercise.{parts}
use Rattle.mig_machine_laws.proofs.exercise_law.worked_exercise_host.Goals as goal

pub returns-clause-parts : goal.returns-clause-parts
returns-clause-parts c = parts
