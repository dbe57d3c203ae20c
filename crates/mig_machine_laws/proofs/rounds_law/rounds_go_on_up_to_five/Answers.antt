use Rattle.mig_machine_laws.proofs.RoundsGoOn.{many}
use Rattle.mig_machine_laws.proofs.rounds_law.rounds_go_on_up_to_five.Goals as goal

pub returns-clause-many : goal.returns-clause-many
returns-clause-many c = many
