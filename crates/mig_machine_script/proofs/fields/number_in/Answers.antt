use Rattle.mig_machine_script.proofs.FieldsSaid.{number_is_text}
use Rattle.mig_machine_script.proofs.fields.number_in.Goals as goal

pub returns-in_default-clause-none : goal.returns-in_default-clause-none
returns-in_default-clause-none c = λ n is. c.in_default.ensures.cases.0 (number_is_text c.args.field.now n is)
