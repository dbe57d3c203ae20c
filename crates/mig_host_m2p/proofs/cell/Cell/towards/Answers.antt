use Rattle.mig_host_m2p.proofs.Common.{bit_at}
use Rattle.mig_host_m2p.proofs.Sides.{zero_below, one_below}
use Rattle.mig_host_m2p.proofs.cell.Cell.towards.Goals as goal

pub returns-then-machine-self-eq0 : goal.returns-then-machine-self-eq0
returns-then-machine-self-eq0 c = zero_below c.args.self.now (bit_at c.args.machine c.args.self.now.depth) c.if-machine-self-eq0.true

pub returns-else-machine-self-eq0 : goal.returns-else-machine-self-eq0
returns-else-machine-self-eq0 c = one_below c.args.self.now (bit_at c.args.machine c.args.self.now.depth) c.if-machine-self-eq0.false
