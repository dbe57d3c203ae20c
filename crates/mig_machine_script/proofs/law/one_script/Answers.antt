use Rattle.mig_machine_script.proofs.OneScript.{one_script}
use Rattle.mig_machine_script.proofs.law.one_script.Goals as goal

pub returns : goal.returns
returns c = one_script
