use Rattle.mig_pagestore.proofs.Common.{◌≡◌, [], ◌∷◌, length, inr, length-append, refl, sym, ap, ◌∙◌, subst, arith}
use Rattle.mig_pagestore.specs.Filling.{PlacesLast}
use Rattle.mig_pagestore.proofs.FilledPages.{same_front, last_is}
use Rattle.mig_pagestore.proofs.Marks.{no_zeros_small, zeros_is}
use Rattle.mig_pagestore.proofs.frame_store.place_last.Goals as goal

pub returns-then-place-gt0-clause-pages : goal.returns-then-place-gt0-clause-pages
returns-then-place-gt0-clause-pages c = let none = no_zeros_small c.args.place c.requires.few.0 in omega (arith, none, c.pop-filled.ensures.room, c.if-place-gt0.true)

pub returns-then-is_zero-clause-placed : goal.returns-then-is_zero-clause-placed
returns-then-is_zero-clause-placed c = λ pages page is.
    let none : c.args.place ≡ 0 = omega (arith, c.if-place-gt0.false) in
    let zeros = last_is c.args.arena.now.pages pages page _ _ is c.len.ensures c.get.ensures ∙ c.is_zero.ensures.zeros c.if-is_zero.true in
    subst (λ p. PlacesLast p c.args.pfn page c.args.pfns.now.items pages c.args.pfns.now.items c.pop-page.new.self.pages 2251799813685248) (sym none)
    (inr (zeros, refl, same_front _ _ _ _ (sym c.pop-page.ensures.pages ∙ is), zeros_is _ refl))

pub returns-clause-pages : goal.returns-clause-pages
returns-clause-pages c =
    let long = ap length c.push_spare.ensures.items ∙ length-append c.args.pfns.now.items (c.args.pfn ∷ []) in
    let none = no_zeros_small c.push_spare.result (omega (arith, c.requires.few.1, c.push_spare.ensures.place, long)) in
    omega (arith, none, c.if-place-gt0.false)

pub returns-then-is_zero-clause-placeless : goal.returns-then-is_zero-clause-placeless
returns-then-is_zero-clause-placeless c = λ _ _. zeros_is _ refl
