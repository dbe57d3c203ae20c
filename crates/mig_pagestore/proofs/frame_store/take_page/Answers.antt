use Rattle.mig_pagestore.proofs.Common.{sym, ◌∙◌}
use Rattle.mig_pagestore.proofs.Led.{led_without, led_popped, small_place, last_marked, led_swapped, count_swapped, cell_kept}
use Rattle.mig_pagestore.proofs.frame_store.take_page.Goals as goal

pub returns-then-place-eq0-clause-led : goal.returns-then-place-eq0-clause-led
returns-then-place-eq0-clause-led c = led_without _ _ _ c.requires.led c.args.pfn (sym c.requires.place ∙ c.if-place-eq0.true)

pub move_page-requires-clause-small : goal.move_page-requires-clause-small
move_page-requires-clause-small c =
    small_place _ _ _ _ _ _ _ c.requires.led c.take_last-last.ensures.items c.pop-page.ensures.pages c.args.pfn _ c.requires.place c.if-place-eq0.false c.if-last-pfn.true c.requires.few

pub move_page-requires-clause-there : goal.move_page-requires-clause-there
move_page-requires-clause-there c =
    last_marked _ _ _ _ _ _ _ c.requires.led c.take_last-last.ensures.items c.pop-page.ensures.pages c.args.pfn _ c.requires.place c.if-place-eq0.false c.if-last-pfn.true

pub returns-then-last-pfn-clause-zeros : goal.returns-then-last-pfn-clause-zeros
returns-then-last-pfn-clause-zeros c =
    count_swapped _ _ _ _ _ _ _ c.requires.led c.take_last-last.ensures.items c.pop-page.ensures.pages c.args.pfn _ c.requires.place c.if-place-eq0.false c.if-last-pfn.true _ c.move_page.ensures.moved

pub returns-then-last-pfn-clause-led : goal.returns-then-last-pfn-clause-led
returns-then-last-pfn-clause-led c =
    led_swapped _ _ _ _ _ _ _ c.requires.led c.take_last-last.ensures.items c.pop-page.ensures.pages c.args.pfn _ c.requires.place c.if-place-eq0.false c.if-last-pfn.true _ c.move_page.ensures.moved

pub returns-then-last-pfn-clause-cell : goal.returns-then-last-pfn-clause-cell
returns-then-last-pfn-clause-cell c =
    cell_kept _ _ _ _ _ _ _ c.requires.led c.take_last-last.ensures.items c.pop-page.ensures.pages c.args.pfn _ c.requires.place c.if-place-eq0.false c.if-last-pfn.true _ c.move_page.ensures.moved

pub returns-else-last-pfn-clause-led : goal.returns-else-last-pfn-clause-led
returns-else-last-pfn-clause-led c = led_popped _ _ _ _ _ _ _ c.requires.led c.take_last-last.ensures.items c.pop-page.ensures.pages c.args.pfn c.if-last-pfn.false
