use Rattle.mig_policy.proofs.Common.{◌∙◌, rules, arith, length}
use Rattle.mig_policy.proofs.TextSteps.{torn_step}
use Rattle.mig_policy.proofs.faults.torn_place.Goals as goal

pub loop-behind-preserved : goal.loop-behind-preserved
loop-behind-preserved c = record {
  same = c.loop-behind.invariant.same ∙ torn_step (length c.args.bytes.now) c.loop-behind.odd c.loop-behind.rest.now c.in-Some.field-0-0.now c.in-Some.behind.now (search rules) (search rules) c.loop-behind.invariant.within;
  within = omega (arith, c.in-Some.ensures.len, c.loop-behind.invariant.within);
}
