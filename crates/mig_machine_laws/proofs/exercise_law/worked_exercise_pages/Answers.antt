use Rattle.mig_machine_laws.proofs.WorkedExercise.{zeros, tables, p2m, front, many}
use Rattle.mig_machine_laws.proofs.exercise_law.worked_exercise_pages.Goals as goal

pub returns-clause-zeros : goal.returns-clause-zeros
returns-clause-zeros c = zeros

pub returns-clause-tables : goal.returns-clause-tables
returns-clause-tables c = tables

pub returns-clause-p2m : goal.returns-clause-p2m
returns-clause-p2m c = p2m

pub returns-clause-front : goal.returns-clause-front
returns-clause-front c = front

pub returns-clause-many : goal.returns-clause-many
returns-clause-many c = many
