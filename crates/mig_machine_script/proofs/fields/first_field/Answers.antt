use Rattle.mig_machine_script.proofs.Cutting.{cut, uncut}
use Rattle.mig_machine_script.proofs.fields.first_field.Goals as goal

pub returns-in-Some : goal.returns-in-Some
returns-in-Some c = cut 32 c.args.text.now c.in-Some.end c.in-Some.ensures

pub returns-in-None : goal.returns-in-None
returns-in-None c = uncut 32 c.args.text.now c.in-None.ensures
