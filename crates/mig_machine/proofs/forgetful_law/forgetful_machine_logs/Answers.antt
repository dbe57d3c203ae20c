use Rattle.mig_machine.proofs.Common.{log_of, history_of}
use Rattle.mig_machine.proofs.LeftOut.{others, none_took}
use Rattle.mig_machine.proofs.forgetful_law.forgetful_machine_logs.Goals as goal

pub returns-clause-others : goal.returns-clause-others
returns-clause-others c = λ m p. others m.forgets (log_of m.inner) p

pub returns-clause-taken : goal.returns-clause-taken
returns-clause-taken c = λ m p there. none_took m.forgets p there (history_of m.inner).taken
