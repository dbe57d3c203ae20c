use Rattle.mig_pagestore.proofs.Common.{◌≤◌, ◌+◌, ℕ, List, length, take, drop, sym, ap, ◌∙◌, subst, arith, Placed}
use Rattle.std.specs.Prelude.{flat_map}
use Rattle.mig_pagestore.proofs.Packing.{slab_there, run_within, run_in_slab}
use Rattle.mig_pagestore.proofs.Sizes.{lie_from}
use Rattle.mig_pagestore.proofs.arena.Arena.page_run.Goals as goal

pub index-requires : goal.index-requires
index-requires c =
    let fits = subst (λ (a : Placed). c.args.place + c.args.count ≤ length a.pages) (sym c.self.view_is) c.requires.within in
    omega (arith, slab_there _ _ _ c.self.invariant c.args.place _ _ c.find-slab.ensures (omega (arith, fits, c.requires.some)), c.self.inside.slabs.ok.0)

pub page_run-requires : goal.page_run-requires
page_run-requires c =
    let fits = subst (λ (a : Placed). c.args.place + c.args.count ≤ length a.pages) (sym c.self.view_is) c.requires.within in
    run_within _ _ _ c.self.invariant c.args.place _ _ c.find-slab.ensures (omega (arith, fits, c.requires.some)) _ c.index.ensures c.args.count c.requires.some fits
    (lie_from _ _ _ _ c.requires.one_slab c.find-slab.ensures)

pub returns : goal.returns
returns c =
    let fits = subst (λ (a : Placed). c.args.place + c.args.count ≤ length a.pages) (sym c.self.view_is) c.requires.within in
    c.page_run.ensures
    ∙ ap (flat_map {X = List ℕ} {A = ℕ} (λ page. page)) (sym (run_in_slab _ _ _ c.self.invariant c.args.place _ _ c.find-slab.ensures (omega (arith, fits, c.requires.some)) _ c.index.ensures c.args.count c.requires.some fits
    (lie_from _ _ _ _ c.requires.one_slab c.find-slab.ensures)))
    ∙ ap (λ (a : Placed). flat_map {X = List ℕ} {A = ℕ} (λ page. page) (take c.args.count (drop c.args.place a.pages))) c.self.view_is
