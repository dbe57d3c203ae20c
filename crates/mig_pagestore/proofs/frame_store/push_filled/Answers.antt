use Rattle.mig_pagestore.proofs.Common.{length, sym, ap, ◌∙◌}
use Rattle.mig_pagestore.proofs.FilledPages.{last_over, last_out}
use Rattle.mig_pagestore.proofs.frame_store.push_filled.Goals as goal

pub returns-in-Ok : goal.returns-in-Ok
returns-in-Ok g c =
    let over = last_over c.args.arena.now.pages _ _ c.fill.new.page _ _ c.push.ensures.pages c.len-place.ensures c.get.ensures in
    (c.fill.new.page, c.in-Ok.ensures, (ap length (over.1 ∙ sym c.whole-page.ensures.same) ∙ c.whole-page.ensures.size, over.0, c.push.ensures.room))

pub returns-in-Err : goal.returns-in-Err
returns-in-Err g c =
    (c.fill.new.page, c.in-Err.ensures, last_out c.args.arena.now c.push.new.self _ _ c.fill.new.page _ _ c.push.ensures.pages c.push.ensures.room c.len-place.ensures c.pop-page.ensures.pages c.pop-page.ensures.room)
