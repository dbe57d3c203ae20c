use Rattle.mig_policy.proofs.Common.{rules}
use Rattle.mig_policy.proofs.TextSteps.{if_none, pairs_none, pairs_half, pairs_step}
use Rattle.mig_policy.proofs.texts.split_pair.Goals as goal

pub returns-in_err-key-clause-none : goal.returns-in_err-key-clause-none
returns-in_err-key-clause-none c = if_none _ (pairs_none c.args.bytes.now (search rules))

pub returns-in_err-value-clause-none : goal.returns-in_err-value-clause-none
returns-in_err-value-clause-none c = if_none _ (pairs_half c.args.bytes.now c.in_ok-key.key.now c.in_ok-key.behind.now (search rules) (search rules))

pub returns-clause-some : goal.returns-clause-some
returns-clause-some c = pairs_step c.args.bytes.now c.in_ok-key.key.now c.in_ok-key.behind.now c.in_ok-value.value.now c.in_ok-value.rest.now (search rules) (search rules)
