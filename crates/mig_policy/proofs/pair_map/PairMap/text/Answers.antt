use Rattle.mig_policy.proofs.Common.{◌++◌, map, ◌∙◌, flat_map, shown, text_of_entry}
use Rattle.mig_policy.proofs.PairTrees.{seen_text}
use Rattle.mig_policy.proofs.pair_map.PairMap.text.Goals as goal

pub loop-key-init : goal.loop-key-init
loop-key-init c =
    (λ i. c.in-Ok.ensures.items i ++ flat_map text_of_entry (map shown (c.into_iter-key-iterator.ensures.into_iter_gives.0 i)))
    ∙ seen_text c.self.inside.pairs.entries c.args.self.now c.self.invariant.0 c.self.view_is
