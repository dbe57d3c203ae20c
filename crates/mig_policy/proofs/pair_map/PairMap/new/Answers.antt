use Rattle.mig_policy.proofs.PairTrees.{none_seen, none_kept}
use Rattle.mig_policy.proofs.pair_map.PairMap.new.Goals as goal

pub invariant_of-result : goal.invariant_of-result
invariant_of-result c = none_kept c.new.result.entries c.new.ensures.empty

pub returns : goal.returns
returns c = none_seen c.new.result.entries c.new.ensures.empty
