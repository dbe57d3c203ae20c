use Rattle.mig_host_laws.proofs.Nothing.{nothing_unsound}
use Rattle.mig_host_laws.proofs.standing_law.nothing_is_wrong.Goals as goal

pub returns-clause-host : goal.returns-clause-host
returns-clause-host c = nothing_unsound
