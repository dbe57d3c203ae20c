use Rattle.mig_pagestore.proofs.Common.{arith, Some, refl, sym, ap, ◌∙◌, option_copied, page_of_mark, place_of_mark}
use Rattle.mig_pagestore.proofs.Led.{led_put, led_without, led_over, led_behind, here_behind, same_behind, place_is, length_behind}
use Rattle.mig_pagestore.proofs.Marks.{place_small, zeros_is, no_zeros_small, zeros_no_place, page_zeros}
use Rattle.mig_pagestore.proofs.frame_store.set_page.Goals as goal

pub returns-in_default-clause-led : goal.returns-in_default-clause-led
returns-in_default-clause-led c = λ d is at. led_put _ _ d _ _ c.take_page.ensures.led is (ap place_of_mark at ∙ place_small 0 (omega arith))

pub returns-then-place-gt0-clause-led : goal.returns-then-place-gt0-clause-led
returns-then-place-gt0-clause-led c = λ d is at. led_over _ _ _ c.requires.led _ c.whole.result.now _ c.requires.place c.if-place-gt0.true d is (place_is _ _ _ c.requires.led _ c.whole.result.now _ c.requires.place c.if-place-gt0.true c.requires.few d at)

pub returns-clause-led : goal.returns-clause-led
returns-clause-led c = λ d is at.
    led_behind _ _ _ c.requires.led _ _ _ c.requires.place c.if-place-gt0.false _ _ c.push_spare.ensures.items c.push.ensures.pages d is (ap place_of_mark (at ∙ c.push_spare.ensures.place) ∙ place_small _ (omega (arith, c.requires.few, length_behind _ _ _ c.requires.led _ _ _ c.requires.place c.if-place-gt0.false _ _ c.push_spare.ensures.items c.push.ensures.pages)))

pub returns-clause-here : goal.returns-clause-here
returns-clause-here c =
    ap (page_of_mark _) c.push_spare.ensures.place
    ∙ here_behind _ _ _ c.requires.led _ _ _ c.requires.place c.if-place-gt0.false _ _ c.push_spare.ensures.items c.push.ensures.pages c.whole-2.ensures.size c.requires.few
    ∙ ap Some c.whole-2.ensures.same ∙ ap option_copied (sym c.in-Some.is)

pub returns-clause-others : goal.returns-clause-others
returns-clause-others c = same_behind _ _ _ c.requires.led _ _ _ c.requires.place c.if-place-gt0.false _ _ c.push_spare.ensures.items c.push.ensures.pages

pub returns-in_default-clause-pages : goal.returns-in_default-clause-pages
returns-in_default-clause-pages c = let none = no_zeros_small 0 (omega arith) in omega (arith, none, c.take_page.ensures.pages)

pub returns-in_default-clause-places : goal.returns-in_default-clause-places
returns-in_default-clause-places c = let none = no_zeros_small 0 (omega arith) in omega (arith, none, c.take_page.ensures.places)

pub returns-then-is_zero-clause-led : goal.returns-then-is_zero-clause-led
returns-then-is_zero-clause-led c = λ d is at.
    led_put _ _ d _ _ (led_without _ _ _ c.requires.led c.args.pfn (sym c.requires.place ∙ omega (arith, c.if-place-gt0.false))) is (zeros_no_place (Some d) (zeros_is _ at))

pub returns-then-is_zero-clause-here : goal.returns-then-is_zero-clause-here
returns-then-is_zero-clause-here c = page_zeros _ _ (zeros_is _ refl) ∙ ap Some (sym (c.is_zero.ensures.zeros c.if-is_zero.true)) ∙ ap option_copied (sym c.in-Some.is)

pub returns-clause-pages : goal.returns-clause-pages
returns-clause-pages c =
    let long = length_behind _ _ _ c.requires.led _ _ _ c.requires.place c.if-place-gt0.false _ _ c.push_spare.ensures.items c.push.ensures.pages in
    let none = no_zeros_small c.push_spare.result (omega (arith, c.requires.few, c.push_spare.ensures.place, long)) in
    omega (arith, none, c.push.ensures.room, c.if-place-gt0.false)

pub returns-clause-places : goal.returns-clause-places
returns-clause-places c =
    let long = length_behind _ _ _ c.requires.led _ _ _ c.requires.place c.if-place-gt0.false _ _ c.push_spare.ensures.items c.push.ensures.pages in
    let none = no_zeros_small c.push_spare.result (omega (arith, c.requires.few, c.push_spare.ensures.place, long)) in
    omega (arith, none, long, c.if-place-gt0.false)

pub returns-then-is_zero-clause-placeless : goal.returns-then-is_zero-clause-placeless
returns-then-is_zero-clause-placeless c = λ _ _. zeros_is _ refl
