use Rattle.mig_pagestore.proofs.Common.{sym, ap, ◌∙◌, arith, length, length-append, [], ◌∷◌, is_zeros}
use Rattle.mig_pagestore.proofs.Marks.{zeros_is, else_is, place_is_mark}
use Rattle.mig_pagestore.proofs.Counts.{counts_some}
use Rattle.mig_pagestore.proofs.Seen.{opened_place, opened_mark, opened_led, opened_count, opened_frames}
use Rattle.mig_pagestore.proofs.frame_store.open_page.Goals as goal

pub returns-then-mark-ne-ZEROS-clause-place : goal.returns-then-mark-ne-ZEROS-clause-place
returns-then-mark-ne-ZEROS-clause-place c = c.mark_of-mark.ensures ∙ sym (place_is_mark _ (ap is_zeros (sym c.mark_of-mark.ensures) ∙ else_is _ c.if-mark-ne-ZEROS.true))

pub overflow_sub-zeros : goal.overflow_sub-zeros
overflow_sub-zeros c = counts_some _ _ c.requires.count c.args.pfn (zeros_is _ (sym c.mark_of-mark.ensures ∙ c.if-mark-ne-ZEROS.false))

pub push-requires : goal.push-requires
push-requires c = let some = counts_some _ _ c.requires.count c.args.pfn (zeros_is _ (sym c.mark_of-mark.ensures ∙ c.if-mark-ne-ZEROS.false)) in omega (arith, some, c.requires.room)

pub push_spare-place-requires : goal.push_spare-place-requires
push_spare-place-requires c = let some = counts_some _ _ c.requires.count c.args.pfn (zeros_is _ (sym c.mark_of-mark.ensures ∙ c.if-mark-ne-ZEROS.false)) in omega (arith, some, c.requires.places)

pub returns-clause-led : goal.returns-clause-led
returns-clause-led c =
    opened_led _ _ _ c.requires.led c.args.pfn (zeros_is _ (sym c.mark_of-mark.ensures ∙ c.if-mark-ne-ZEROS.false)) _ _ _ c.push_spare-place.ensures.items c.push.ensures.pages _ _ c.push_spare-place.ensures.place c.move_page.ensures.moved

pub returns-clause-count : goal.returns-clause-count
returns-clause-count c =
    opened_count _ _ _ c.requires.led c.args.pfn (zeros_is _ (sym c.mark_of-mark.ensures ∙ c.if-mark-ne-ZEROS.false)) _ _ _ c.push_spare-place.ensures.items c.push.ensures.pages _ _ c.push_spare-place.ensures.place c.move_page.ensures.moved _ c.requires.count

pub returns-clause-frames : goal.returns-clause-frames
returns-clause-frames c =
    opened_frames _ _ _ c.requires.led c.args.pfn (zeros_is _ (sym c.mark_of-mark.ensures ∙ c.if-mark-ne-ZEROS.false)) _ _ _ c.push_spare-place.ensures.items c.push.ensures.pages _ _ c.push_spare-place.ensures.place c.move_page.ensures.moved (c.whole.ensures.same ∙ c.zero_page.ensures) c.whole.ensures.size

pub returns-clause-mark : goal.returns-clause-mark
returns-clause-mark c =
    opened_mark _ _ _ c.requires.led c.args.pfn (zeros_is _ (sym c.mark_of-mark.ensures ∙ c.if-mark-ne-ZEROS.false)) _ _ _ c.push_spare-place.ensures.items c.push.ensures.pages _ _ c.push_spare-place.ensures.place c.move_page.ensures.moved

pub returns-clause-place : goal.returns-clause-place
returns-clause-place c =
    opened_place _ _ _ c.requires.led c.args.pfn (zeros_is _ (sym c.mark_of-mark.ensures ∙ c.if-mark-ne-ZEROS.false)) _ _ _ c.push_spare-place.ensures.items c.push.ensures.pages _ _ c.push_spare-place.ensures.place c.move_page.ensures.moved

pub returns-clause-pages : goal.returns-clause-pages
returns-clause-pages c = let some = counts_some _ _ c.requires.count c.args.pfn (zeros_is _ (sym c.mark_of-mark.ensures ∙ c.if-mark-ne-ZEROS.false)) in omega (arith, some, c.push.ensures.room)

pub returns-clause-pfns : goal.returns-clause-pfns
returns-clause-pfns c =
    let some = counts_some _ _ c.requires.count c.args.pfn (zeros_is _ (sym c.mark_of-mark.ensures ∙ c.if-mark-ne-ZEROS.false)) in
    omega (arith, some, ap length c.push_spare-place.ensures.items, length-append c.args.pfns.now.items (c.args.pfn ∷ []))
