use Rattle.mig_machine_script.proofs.Judging.{judged}
use Rattle.mig_machine_script.proofs.OneScript.{never_both, one_bad_line}
use Rattle.mig_machine_script.proofs.law.script_or_bad_line.Goals as goal

pub returns : goal.returns
returns c = record { either = judged; never_both = never_both; one = one_bad_line }
