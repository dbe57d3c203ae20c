use Rattle.mig_host.proofs.Common.{◌∙◌, localised}
use Rattle.mig_host.proofs.restore.localise_counted.Goals as goal

pub returns-clause-localised : goal.returns-clause-localised
returns-clause-localised c = c.localise_guest.ensures ∙ (λ i. localised (λ pfn. c.in-Ok.ensures.machines pfn i) c.args.guest.now)
