use Rattle.mig_host.proofs.HostChanges.{fine_new}
use Rattle.mig_host.proofs.host.Host.add.Goals as goal

pub put_spare-requires-clause-is : goal.put_spare-requires-clause-is
put_spare-requires-clause-is c = fine_new c.args.self.now.host c.args.pfn c.args.mfn c.requires.inside c.requires.some c.requires.below
