use Rattle.mig_dirtysave_rounds.proofs.Ready.{made_unused}
use Rattle.mig_dirtysave_rounds.proofs.room.make_room.Goals as goal

pub invariant_of-result : goal.invariant_of-result
invariant_of-result c =
    made_unused _ _ _ _ _ _ c.requires c.in_ok-new.ensures c.in_ok-all.ensures.set c.in_ok-none.ensures.set c.in_ok-all.ensures.size c.in_ok-none.ensures.size
    c.in_ok-no_types.ensures.size c.in_ok-no_types.ensures.none c.in_ok-none-2.ensures.size
