use Rattle.mig_machine_script.proofs.DotsCounted.{before}
use Rattle.mig_machine_script.proofs.lines_law.ran_laws.Goals as goal

pub returns-clause-before : goal.returns-clause-before
returns-clause-before c = λ lines n. before lines n
