use Rattle.mig_host_laws.proofs.Instances.{host_wide}
use Rattle.mig_host_laws.proofs.standing_law.first_row_is_least.Goals as goal

pub returns-clause-wide : goal.returns-clause-wide
returns-clause-wide c = host_wide
