use Rattle.mig_host.proofs.Common.{arith}
use Rattle.mig_host.proofs.MachineMaps.{inverse_empty, below_empty}
use Rattle.mig_host.proofs.machine_frames.MachineFrames.with_capacity.Goals as goal

pub invariant_of-result : goal.invariant_of-result
invariant_of-result c = (inverse_empty c.new.result.values c.in_ok-back.back.values c.new.ensures.values c.in_ok-back.ensures.values, omega arith, omega arith, below_empty c.new.result.values c.new.ensures.values)
