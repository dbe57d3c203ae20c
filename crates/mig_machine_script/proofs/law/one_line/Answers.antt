use Rattle.mig_machine_script.proofs.OneLine.{one_line}
use Rattle.mig_machine_script.proofs.law.one_line.Goals as goal

pub returns : goal.returns
returns c = one_line
