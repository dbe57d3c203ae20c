use Rattle.mig_policy.proofs.Common.{rules, true, false}
use Rattle.mig_policy.proofs.PairSteps.{at_end, spelled_as}
use Rattle.mig_policy.proofs.pairs.canonical_pairs.Goals as goal

pub returns-in_default-clause-spelled : goal.returns-in_default-clause-spelled
returns-in_default-clause-spelled c = spelled_as false c.args.bytes.now (search rules)

pub returns-clause-spelled : goal.returns-clause-spelled
returns-clause-spelled c = spelled_as true c.args.bytes.now (at_end c.loop-last.last.now c.loop-last.rest.now c.args.bytes.now (search rules) c.loop-last.invariant.same)
