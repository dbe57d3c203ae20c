use Rattle.mig_host_laws.proofs.NamedAnew.{seen_once}
use Rattle.mig_host_laws.proofs.field_law.context_is_seen.Goals as goal

pub returns-clause-one : goal.returns-clause-one
returns-clause-one c = seen_once
