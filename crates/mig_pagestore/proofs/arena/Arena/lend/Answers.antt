use Rattle.mig_pagestore.proofs.Common.{arith, ◌<◌, ◌-◌, length, slice_get, set, refl, sym, ap, subst, ◌∙◌, Placed, all_pages}
use Rattle.mig_pagestore.proofs.Packing.{slab_there, page_within, page_in_slab, arena_set, pages_set}
use Rattle.mig_pagestore.proofs.arena.Arena.lend.Goals as goal

pub index_mut-requires : goal.index_mut-requires
index_mut-requires c = omega (arith, slab_there _ _ _ c.self.invariant _ _ _ c.find-slab.ensures (subst (λ (a : Placed). c.args.place < length a.pages) (sym c.self.view_is) c.requires), c.self.inside.slabs.ok.0)

pub lend-requires : goal.lend-requires
lend-requires c = page_within _ _ _ c.self.invariant _ _ _ c.find-slab.ensures (subst (λ (a : Placed). c.args.place < length a.pages) (sym c.self.view_is) c.requires) _ c.index_mut.ensures.value

pub invariant_of-self-lent : goal.invariant_of-self-lent
invariant_of-self-lent c = arena_set _ _ _ c.self.invariant _ _ _ c.find-slab.ensures (subst (λ (a : Placed). c.args.place < length a.pages) (sym c.self.view_is) c.requires) _ c.index_mut.ensures.value

pub returns : goal.returns
returns c =
    let ss = c.self.inside.slabs.items in let place = c.args.place in let s = c.index_mut.result.now in
    let lt : place < length (all_pages ss) = subst (λ (a : Placed). place < length a.pages) (sym c.self.view_is) c.requires in (
      (
        refl,
        λ w.
            (λ i. record { pages = pages_set ss _ _ c.self.invariant place _ _ c.find-slab.ensures lt s c.index_mut.ensures.value w i; room = c.self.inside.places - c.self.inside.count })
            ∙ ap (λ (a : Placed). record a { pages = set a.pages place w }) c.self.view_is,
      ),
      record { writes_back = tt; value = ap (λ (a : Placed). slice_get a.pages place) (sym c.self.view_is) ∙ page_in_slab ss _ _ c.self.invariant place _ _ c.find-slab.ensures lt s c.index_mut.ensures.value ∙ c.lend.ensures.value },
    )
