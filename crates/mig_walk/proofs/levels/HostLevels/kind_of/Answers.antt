use Rattle.mig_walk.proofs.Common.{◌∙◌}
use Rattle.mig_walk.proofs.HostFrames.{bare_type}
use Rattle.mig_walk.proofs.levels.HostLevels.kind_of.Goals as goal

pub returns : goal.returns
returns c = c.frame.ensures ∙ bare_type c.args.self.now.host.frames c.args.pfn
