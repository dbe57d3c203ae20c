use Rattle.mig_machine_script.proofs.Common.{rules, option_copied, fields_left}
use Rattle.mig_machine_script.proofs.FieldsSaid.{no_more, no_dot}
use Rattle.mig_machine_script.proofs.line.dot_in.Goals as goal

pub returns-then-is_some-clause-none : goal.returns-then-is_some-clause-none
returns-then-is_some-clause-none c = no_dot (fields_left (option_copied c.args.rest)) (no_more c.args.rest (search rules))
