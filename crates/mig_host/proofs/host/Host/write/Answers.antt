use Rattle.mig_host.proofs.Common.{sym, ◌∙◌}
use Rattle.mig_host.proofs.HostChanges.{allowed_there, paged_there}
use Rattle.mig_host.proofs.host.Host.write.Goals as goal

pub retype-requires-clause-allowed : goal.retype-requires-clause-allowed
retype-requires-clause-allowed c = allowed_there c.args.self.now.host c.args.pfn c.in-Some.kind c.width-width.ensures.valid (sym c.in-Some.is ∙ c.frame.ensures)

pub retype-requires-clause-paged : goal.retype-requires-clause-paged
retype-requires-clause-paged c = paged_there c.args.self.now.host c.args.pfn c.in-Some.kind c.width-width.ensures.valid (sym c.in-Some.is ∙ c.frame.ensures) c.requires.page

pub retype-requires-clause-in_step : goal.retype-requires-clause-in_step
retype-requires-clause-in_step c = paged_there c.args.self.now.host c.args.pfn c.in-Some.kind c.width-width.ensures.valid (sym c.in-Some.is ∙ c.frame.ensures) c.requires.page
