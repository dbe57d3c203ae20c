use Rattle.mig_policy.proofs.Common.{not, rules, is_key_byte}
use Rattle.mig_policy.proofs.TextSteps.{at_first, at_no}
use Rattle.mig_policy.proofs.faults.allowed_len.Goals as goal

pub returns-in-Some : goal.returns-in-Some
returns-in-Some c = at_first (λ b. not (is_key_byte b)) c.args.key.now c.in-Some.at (search rules)

pub returns-in-None : goal.returns-in-None
returns-in-None c = at_no (λ b. not (is_key_byte b)) c.args.key.now (search rules)
