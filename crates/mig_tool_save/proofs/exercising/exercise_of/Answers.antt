use Rattle.mig_tool_save.proofs.Common.{arith, IsExerciseSize, host_of_exercise, script_of_exercise}
use Rattle.mig_tool_save.proofs.ExerciseOutcomes.{sound_at, exercise_saved, exercises}
use Rattle.mig_tool_save.proofs.exercising.exercise_of.Goals as goal

pub saved_len-requires-clause-sound : goal.saved_len-requires-clause-sound
saved_len-requires-clause-sound c =
    let size : IsExerciseSize c.args.frames = record { least = omega (arith, c.requires.size.0); most = omega (arith, c.requires.size.1) } in
    let m = c.args.machine.now in
    sound_at m.host (host_of_exercise c.args.seed c.args.frames) m.lines (script_of_exercise c.args.seed c.args.frames) c.requires.host c.requires.lines
    (λ calls. c.exercise_is_saved.ensures.sound c.args.seed c.args.frames calls size)

pub returns-clause-saved : goal.returns-clause-saved
returns-clause-saved c =
    let m = c.args.machine.now in
    exercise_saved m.host m.lines c.saved_len.new.machine.host c.new-stream.result.bytes c.saved_len.new.stream.bytes _ c.in_ok-summary.ensures.wrote c.new-stream.ensures.bytes
    c.args.seed c.args.frames _ c.requires.host c.requires.lines c.in_ok-summary.ensures.canon

pub returns-clause-numbers : goal.returns-clause-numbers
returns-clause-numbers c =
    let size : IsExerciseSize c.args.frames = record { least = omega (arith, c.requires.size.0); most = omega (arith, c.requires.size.1) } in
    exercises c.args.seed c.args.frames _ c.saved_len.new.stream.bytes _ size
    (λ calls. c.exercise_is_saved.ensures.canon c.args.seed c.args.frames calls size) (λ rounds calls again. c.exercise_is_saved.ensures.entries c.args.seed c.args.frames rounds calls again size) (returns-clause-saved c)
