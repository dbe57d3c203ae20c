use Rattle.mig_pagestore.proofs.Packing.{arena_none}
use Rattle.mig_pagestore.proofs.arena.Arena.new.Goals as goal

pub invariant_of-result : goal.invariant_of-result
invariant_of-result c = arena_none _ c.new.ensures.items
