use Rattle.mig_pagestore.proofs.Common.{◌≤◌, ◌-◌, ◌+◌, Some, refl, sym, ap, ◌∙◌, subst, arith, ValueMap, Framed, FrameOf, IsCell, IsLed, frames_seen, page_of_mark, place_of_mark, zeros_in, CountsZeros}
use Rattle.std.specs.FinMap as maps
use Rattle.mig_pagestore.proofs.FrameCells.{cell_some}
use Rattle.mig_pagestore.proofs.FilledPages.{filled_cell, comes_last}
use Rattle.mig_pagestore.proofs.Marks.{mark_parts, mark_place}
use Rattle.mig_pagestore.proofs.Counts.{counts_most}
use Rattle.mig_pagestore.proofs.Seen.{numbers_left, put_seen, count_put}
use Rattle.mig_pagestore.proofs.frame_store.FrameStore.put_filled.Goals as goal

pub overflow_sub-self-2 : goal.overflow_sub-self-2
overflow_sub-self-2 g c = let most = counts_most _ _ c.self.invariant.2 c.args.pfn in omega (arith, most, c.zeros_of.ensures, ap zeros_in c.mark_of-before.ensures)

pub put_spare-requires-clause-some : goal.put_spare-requires-clause-some
put_spare-requires-clause-some g c =
    let filled = c.in_ok-push_filled.ensures in let place = c.place_of-place.ensures ∙ ap place_of_mark c.mark_of-before.ensures ∙ mark_place _ in
    let last = comes_last _ _ _ c.args.pfn filled.0 _ _ _ c.self.invariant.0 (omega (arith, c.self.invariant.1.few)) filled.2.0 _ place (c.place_last-after.ensures.placed _ filled.0 filled.2.1) in
    cell_some _ (filled_cell _ _ c.args.kind last.some c.requires.paged c.write_cell-cell.ensures.kind c.write_cell-cell.ensures.mark)

pub invariant_of-self-2 : goal.invariant_of-self-2
invariant_of-self-2 g c =
    let filled = c.in_ok-push_filled.ensures in let put = c.put_spare.ensures in let room = c.self.invariant.1 in
    let place = c.place_of-place.ensures ∙ ap place_of_mark c.mark_of-before.ensures ∙ mark_place _ in
    let last = comes_last _ _ _ c.args.pfn filled.0 _ _ _ c.self.invariant.0 (omega (arith, room.few)) filled.2.0 _ place (c.place_last-after.ensures.placed _ filled.0 filled.2.1) in
    let is : IsCell c.write_cell-cell.result = filled_cell _ _ c.args.kind last.some c.requires.paged c.write_cell-cell.ensures.kind c.write_cell-cell.ensures.mark in
    let left = numbers_left _ _ _ c.self.inside.spare put.in_place put.taken room.numbers in
    let one : 1 ≤ c.self.inside.spare = omega (arith, c.requires.room, ap (λ (s : Framed). s.spare) c.self.view_is) in
    let mark = c.mark_of-before.ensures in let taken = c.pages_taken.ensures in let told = c.place_of-place.ensures in
    let most = counts_most _ _ c.self.invariant.2 c.args.pfn in let parts = mark_parts c.mark_of-before.result in let zeros = ap zeros_in mark in
    let was = c.zeros_of.ensures in let now = c.zeros_of-2.ensures in (
      subst (λ (m : ValueMap). IsLed m c.place_last-after.new.pfns.items c.place_last-after.new.arena.pages) (sym put.values) (last.led c.write_cell-cell.result is c.write_cell-cell.ensures.mark),
      record {
        numbers = omega (arith, left, mark, taken);
        pages = omega (arith, one, room.pages, filled.2.2, c.place_last-after.ensures.pages, taken, most, parts, told, zeros, was, now);
        places = omega (arith, one, room.places, last.long, c.place_last-after.ensures.capacity, taken, most, parts, told, zeros, was, now);
        few = omega (arith, one, room.few, last.long, taken, most, parts, told, zeros, was, now);
      },
      subst (λ (m : ValueMap). CountsZeros m (c.self.inside.zeros - c.zeros_of.result + c.zeros_of-2.result)) (sym put.values)
          (count_put _ _ c.args.pfn _ c.self.invariant.2 refl _ _ _ c.write_cell-cell.ensures.mark (omega (arith, zeros, was, now))),
    )

pub returns-clause-filled : goal.returns-clause-filled
returns-clause-filled g c =
    let filled = c.in_ok-push_filled.ensures in let place = c.place_of-place.ensures ∙ ap place_of_mark c.mark_of-before.ensures ∙ mark_place _ in
    let last = comes_last _ _ _ c.args.pfn filled.0 _ _ _ c.self.invariant.0 (omega (arith, c.self.invariant.1.few)) filled.2.0 _ place (c.place_last-after.ensures.placed _ filled.0 filled.2.1) in
    let f : FrameOf = record { type = c.args.kind; page = Some filled.0 } in (
      filled.0,
      filled.1,
      ap (frames_seen c.place_last-after.new.arena.pages) c.put_spare.ensures.values
          ∙ put_seen _ _ _ _ c.args.pfn _ f last.others c.write_cell-cell.ensures.kind (ap (page_of_mark _) c.write_cell-cell.ensures.mark ∙ last.here)
          ∙ ap (λ (s : Framed). maps.insert s.frames c.args.pfn f) c.self.view_is,
    )
