use Rattle.mig_pagestore.proofs.Common.{arith, ◌≤◌, [], ◌∷◌, ◌++◌, sym, ap, ◌∙◌, subst, Placed}
use Rattle.mig_pagestore.proofs.Packing.{slab_spare, spare_within, arena_pushed, pages_pushed}
use Rattle.mig_pagestore.proofs.arena.Arena.push.Goals as goal

pub index_mut-requires : goal.index_mut-requires
index_mut-requires c = omega (arith, slab_spare _ _ _ c.self.invariant _ _ c.find-slab.ensures (subst (λ (a : Placed). 1 ≤ a.room) (sym c.self.view_is) c.requires), c.self.inside.slabs.ok.0)

pub push-requires : goal.push-requires
push-requires c = spare_within _ _ _ c.self.invariant _ _ c.find-slab.ensures (subst (λ (a : Placed). 1 ≤ a.room) (sym c.self.view_is) c.requires) _ c.index_mut.ensures.value

pub invariant_of-self : goal.invariant_of-self
invariant_of-self c = arena_pushed _ _ _ c.self.invariant _ _ c.find-slab.ensures (subst (λ (a : Placed). 1 ≤ a.room) (sym c.self.view_is) c.requires) _ c.index_mut.ensures.value _ _ c.push.ensures.pages c.push.ensures.places

pub returns-clause-pages : goal.returns-clause-pages
returns-clause-pages c =
    pages_pushed _ _ _ c.self.invariant _ _ c.find-slab.ensures (subst (λ (a : Placed). 1 ≤ a.room) (sym c.self.view_is) c.requires) _ c.index_mut.ensures.value _ _ c.push.ensures.pages c.push.ensures.places
    ∙ ap (λ (a : Placed). a.pages ++ c.args.page.now ∷ []) c.self.view_is
