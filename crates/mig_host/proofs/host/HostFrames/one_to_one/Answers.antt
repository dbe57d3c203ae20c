use Rattle.mig_host.proofs.OneToOne.{host_there, host_back, host_small}
use Rattle.mig_host.proofs.host.HostFrames.one_to_one.Goals as goal

pub returns : goal.returns
returns c = record {
  there = host_there c.args.self.now.host c.width.ensures.valid;
  back = host_back c.args.self.now.host c.width.ensures.valid;
  small = host_small c.args.self.now.host c.width.ensures.valid;
}
