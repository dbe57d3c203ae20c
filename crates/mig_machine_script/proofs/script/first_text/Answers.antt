use Rattle.mig_machine_script.proofs.Cutting.{cut_line, last_line}
use Rattle.mig_machine_script.proofs.script.first_text.Goals as goal

pub returns-in-Some-clause-begins : goal.returns-in-Some-clause-begins
returns-in-Some-clause-begins c = cut_line c.args.bytes.now c.in-Some.end c.in-Some.ensures

pub returns-in-None-clause-begins : goal.returns-in-None-clause-begins
returns-in-None-clause-begins c = last_line c.args.bytes.now c.requires c.in-None.ensures
