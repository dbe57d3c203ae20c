use Rattle.mig_policy.proofs.Common.{◌<◌, length, rules, arith, ◌^◌}
use Rattle.mig_policy.proofs.PairTrees.{empty_len}
use Rattle.mig_policy.proofs.merge.merged_map.Goals as goal

pub add_all-requires : goal.add_all-requires
add_all-requires c =
    let none = empty_len c.new-map.result c.new-map.ensures in let part : length c.args.part.now < 2 ^ 63 = search rules in omega (arith, none, part)

pub add_all-requires-2 : goal.add_all-requires-2
add_all-requires-2 c =
    let none = empty_len c.new-map.result c.new-map.ensures in let longer = c.in_ok-add_all.ensures.longer in let part : length c.args.part.now < 2 ^ 63 = search rules in let bytes : length c.args.bytes.now < 2 ^ 63 = search rules in
    omega (arith, none, longer, part, bytes)
