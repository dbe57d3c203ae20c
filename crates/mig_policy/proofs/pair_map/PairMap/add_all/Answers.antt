use Rattle.mig_policy.proofs.Common.{arith, put_pairs, pairs_in}
use Rattle.mig_policy.proofs.PairTrees.{one_more, one_more_set}
use Rattle.mig_policy.proofs.pair_map.PairMap.add_all.Goals as goal

pub loop-key-preserved : goal.loop-key-preserved
loop-key-preserved c =
    let all = put_pairs c.args.self.now (pairs_in c.args.bytes.now) in
    record {
      same = one_more c.loop-key.self c.set.new.self all c.in-Some.key.now c.in-Some.value.now c.loop-key.rest.now c.in-Some.behind.now c.in-Some.ensures.some c.in_ok-set.ensures.ok c.loop-key.invariant.same;
      len = omega (arith, c.in-Some.ensures.len, c.in_ok-set.ensures.longer, c.loop-key.invariant.len);
      begun = one_more_set c.args.self.now c.loop-key.self c.set.new.self c.in-Some.key.now c.in-Some.value.now c.loop-key.rest.now c.in-Some.behind.now (pairs_in c.args.bytes.now) c.in-Some.ensures.some c.in_ok-set.ensures.ok c.loop-key.invariant.begun;
    }
