use Rattle.mig_pagestore.proofs.Common.{◌+◌, ◌-◌, ◌<◌, sym, subst, arith, IsFound}
use Rattle.std.proofs.lemmas.Nat.{one_shl}
use Rattle.mig_pagestore.proofs.Sizes.{found_large, found_small, power_over}
use Rattle.mig_pagestore.proofs.arena.find.Goals as goal

pub overflow_sub-result : goal.overflow_sub-result
overflow_sub-result c =
    let power = power_over c.args.place c.ilog2-power.result c.ilog2-power.ensures.next_power_gt (omega arith) c.ilog2-power.ensures.power_le in omega (arith, power.0)

pub returns-then-place-ge-GROWING_PLACES : goal.returns-then-place-ge-GROWING_PLACES
returns-then-place-ge-GROWING_PLACES c = found_large c.args.place (omega arith)

pub returns : goal.returns
returns c =
    let power = c.ilog2-power.result in
    let few : c.args.place < 16320 = omega arith in
    let over = power_over c.args.place power c.ilog2-power.ensures.next_power_gt few c.ilog2-power.ensures.power_le in
    subst (λ k. IsFound c.args.place (power - 6) (c.args.place + 64 - k)) (sym (one_shl power 64 over.1)) (found_small c.args.place power c.ilog2-power.ensures.power_le c.ilog2-power.ensures.next_power_gt few)
