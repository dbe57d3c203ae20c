use Rattle.mig_walk.proofs.Standings.{host_ready}
use Rattle.mig_walk.proofs.walk.walk_host.Goals as goal

pub walk-requires : goal.walk-requires
walk-requires c = record {
  size = (host_ready c.args.host.now.host c.width.ensures.valid c.requires.sound c.args.vcpu).size;
}

pub returns : goal.returns
returns c = record {
  walked = c.walk.ensures (host_ready c.args.host.now.host c.width.ensures.valid c.requires.sound c.args.vcpu);
}
