use Rattle.mig_host_laws.proofs.WorkedEntries.{blank}
use Rattle.mig_host_laws.proofs.worked_law.worked_entries.Goals as goal

pub returns-clause-blank : goal.returns-clause-blank
returns-clause-blank c = blank
