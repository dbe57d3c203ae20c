use Rattle.mig_host.proofs.HostsMade.{made_empty}
use Rattle.mig_host.proofs.host.Host.new.Goals as goal

pub invariant_of-result : goal.invariant_of-result
invariant_of-result c = rw (c.new.ensures.frames, c.new-2.ensures.machines, c.new-3.ensures) (made_empty c.args.kind c.args.width c.requires.width c.requires.some_width c.requires.pv_width)
