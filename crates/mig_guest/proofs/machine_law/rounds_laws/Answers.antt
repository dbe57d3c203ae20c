use Rattle.mig_guest.proofs.RoundsRead.{begins}
use Rattle.mig_guest.proofs.machine_law.rounds_laws.Goals as goal

pub returns-clause-begins : goal.returns-clause-begins
returns-clause-begins c = begins
