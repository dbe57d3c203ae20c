use Rattle.mig_exercise.proofs.Common.{arith}
use Rattle.mig_exercise.proofs.LongPages.{one_more_falls}
use Rattle.mig_exercise.proofs.pages.put_falling.Goals as goal

pub loop-slot-preserved : goal.loop-slot-preserved
loop-slot-preserved c = λ f is. one_more_falls 512 c.args.first c.args.step f c.loop-slot.slot c.loop-slot.page c.put_u64_le.new.bytes (omega arith) (c.loop-slot.invariant f is) c.put_u64_le.ensures
