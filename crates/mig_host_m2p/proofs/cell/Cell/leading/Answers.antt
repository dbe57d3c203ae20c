use Rattle.mig_host_m2p.proofs.Common.{bit_at}
use Rattle.mig_host_m2p.proofs.Sides.{led_zero, led_one}
use Rattle.mig_host_m2p.proofs.cell.Cell.leading.Goals as goal

pub returns-then-machine-self-eq0 : goal.returns-then-machine-self-eq0
returns-then-machine-self-eq0 c = led_zero c.args.self.now (bit_at c.args.machine c.args.self.now.depth) c.args.to c.if-machine-self-eq0.true

pub returns-else-machine-self-eq0 : goal.returns-else-machine-self-eq0
returns-else-machine-self-eq0 c = led_one c.args.self.now (bit_at c.args.machine c.args.self.now.depth) c.args.to c.if-machine-self-eq0.false
