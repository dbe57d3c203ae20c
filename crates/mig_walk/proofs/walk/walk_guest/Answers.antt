use Rattle.mig_walk.proofs.Standings.{guest_ready}
use Rattle.mig_walk.proofs.walk.walk_guest.Goals as goal

pub walk-requires : goal.walk-requires
walk-requires c = record {
  size = (guest_ready c.args.guest.now c.requires.whole c.args.vcpu).size;
}

pub returns : goal.returns
returns c = record {
  walked = c.walk.ensures (guest_ready c.args.guest.now c.requires.whole c.args.vcpu);
}
