use Rattle.mig_pagestore.proofs.Common.{arith, ◌<◌, ◌+◌, length, sym, ap, ◌∙◌, subst, Placed}
use Rattle.mig_pagestore.proofs.Packing.{slab_last, last_within, arena_popped, pages_popped, room_popped}
use Rattle.mig_pagestore.proofs.arena.Arena.pop.Goals as goal

pub index_mut-requires : goal.index_mut-requires
index_mut-requires c = omega (arith, slab_last _ _ _ c.self.invariant _ _ c.find-slab.ensures (subst (λ (a : Placed). 0 < length a.pages) (sym c.self.view_is) c.requires), c.self.inside.slabs.ok.0)

pub pop-requires : goal.pop-requires
pop-requires c = last_within _ _ _ c.self.invariant _ _ c.find-slab.ensures (subst (λ (a : Placed). 0 < length a.pages) (sym c.self.view_is) c.requires) _ c.index_mut.ensures.value

pub invariant_of-self : goal.invariant_of-self
invariant_of-self c =
    arena_popped _ _ _ c.self.invariant _ _ c.find-slab.ensures (subst (λ (a : Placed). 0 < length a.pages) (sym c.self.view_is) c.requires) _ c.index_mut.ensures.value _ _ c.pop.ensures.pages c.pop.ensures.places

pub returns-clause-pages : goal.returns-clause-pages
returns-clause-pages c =
    ap (λ (a : Placed). a.pages) (sym c.self.view_is)
    ∙ pages_popped _ _ _ c.self.invariant _ _ c.find-slab.ensures (subst (λ (a : Placed). 0 < length a.pages) (sym c.self.view_is) c.requires) _ c.index_mut.ensures.value _ _ c.pop.ensures.pages c.pop.ensures.places

pub returns-clause-room : goal.returns-clause-room
returns-clause-room c =
    room_popped _ _ _ c.self.invariant _ _ c.find-slab.ensures (subst (λ (a : Placed). 0 < length a.pages) (sym c.self.view_is) c.requires) ∙ ap (λ (a : Placed). a.room + 1) c.self.view_is
