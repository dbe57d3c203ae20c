use Rattle.mig_pagestore.proofs.Common.{ℕ, ◌+◌, ◌∙◌, subst, arith, IsArena}
use Rattle.mig_pagestore.proofs.Packing.{arena_more}
use Rattle.mig_pagestore.proofs.arena.Arena.grow.Goals as goal

pub invariant_of-self-2 : goal.invariant_of-self-2
invariant_of-self-2 c =
    subst (λ (k : ℕ). IsArena c.add.new.slabs.items c.self.inside.count (c.self.inside.places + k)) c.in_ok-slab.ensures.1
    (arena_more _ _ _ c.self.invariant _ _ c.in_ok-add.ensures.ok c.in_ok-slab.ensures.0 (omega arith) (c.in_ok-slab.ensures.1 ∙ c.min-places.ensures))
