use Rattle.mig_exercise.proofs.Common.{refl}
use Rattle.mig_exercise.specs.Numbers.{number}
use Rattle.mig_exercise.proofs.NumberSteps.{stepped}
use Rattle.mig_exercise.proofs.numbers.number_before.Goals as goal

pub loop-i-init : goal.loop-i-init
unfolding number
loop-i-init c = refl

pub loop-i-preserved : goal.loop-i-preserved
loop-i-preserved c = stepped c.args.seed c.loop-i.i c.loop-i.last c.next_number-last.result c.loop-i.invariant c.next_number-last.ensures
