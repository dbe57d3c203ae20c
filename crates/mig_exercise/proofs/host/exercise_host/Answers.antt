use Rattle.mig_exercise.specs.ExerciseHosts.{frames_up_to}
use Rattle.mig_exercise.proofs.host.exercise_host.Goals as goal

pub fill-requires-clause-none : goal.fill-requires-clause-none
unfolding frames_up_to
fill-requires-clause-none c = λ contents. c.new-host.ensures.host
