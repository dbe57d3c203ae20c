use Rattle.mig_pagestore.proofs.Common.{arith, ◌<◌, length, slice_get, sym, ap, ◌∙◌, subst, Placed}
use Rattle.mig_pagestore.proofs.Packing.{slab_there, page_within, page_in_slab}
use Rattle.mig_pagestore.proofs.arena.Arena.get.Goals as goal

pub index-requires : goal.index-requires
index-requires c = omega (arith, slab_there _ _ _ c.self.invariant _ _ _ c.find-slab.ensures (subst (λ (a : Placed). c.args.place < length a.pages) (sym c.self.view_is) c.requires), c.self.inside.slabs.ok.0)

pub get-requires : goal.get-requires
get-requires c = page_within _ _ _ c.self.invariant _ _ _ c.find-slab.ensures (subst (λ (a : Placed). c.args.place < length a.pages) (sym c.self.view_is) c.requires) _ c.index.ensures

pub returns : goal.returns
returns c =
    ap (λ (a : Placed). slice_get a.pages c.args.place) (sym c.self.view_is)
    ∙ page_in_slab _ _ _ c.self.invariant _ _ _ c.find-slab.ensures (subst (λ (a : Placed). c.args.place < length a.pages) (sym c.self.view_is) c.requires) _ c.index.ensures ∙ c.get.ensures
