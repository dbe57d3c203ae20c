use Rattle.mig_policy.proofs.Common.{rules}
use Rattle.mig_policy.proofs.TextSteps.{if_none, last_text, first_text, text_parts}
use Rattle.mig_policy.proofs.texts.split_text.Goals as goal

pub returns-in_err-end-clause-none : goal.returns-in_err-end-clause-none
returns-in_err-end-clause-none c = if_none _ (last_text c.args.bytes.now (search rules))

pub returns-clause-some : goal.returns-clause-some
returns-clause-some c = first_text c.args.bytes.now c.in_ok-end.end (search rules)

pub returns-clause-parts : goal.returns-clause-parts
returns-clause-parts c = text_parts c.args.bytes.now c.in_ok-end.end (search rules)
