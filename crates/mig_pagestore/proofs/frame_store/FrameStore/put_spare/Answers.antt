use Rattle.mig_pagestore.proofs.Common.{IsSome, ◌-◌, ◌+◌, sym, ap, ◌∙◌, subst, arith, option_copied, ValueMap, Framed, FrameOf, frame_page, IsCell, IsLed, frames_seen, page_of_mark, mark_or_0, zeros_in, CountsZeros}
use Rattle.std.specs.FinMap as maps
use Rattle.mig_pagestore.proofs.FrameCells.{cell_some}
use Rattle.mig_pagestore.proofs.Marks.{mark_parts}
use Rattle.mig_pagestore.proofs.Counts.{counts_most}
use Rattle.mig_pagestore.proofs.Seen.{page_some, spare_enough, numbers_left, cell_is, put_seen, count_put}
use Rattle.mig_pagestore.proofs.frame_store.FrameStore.put_spare.Goals as goal

pub overflow_sub-self : goal.overflow_sub-self
overflow_sub-self c =
    let need = spare_enough _ _ _ c.args.pfn _ c.self.view_is c.requires.room in
    omega (arith, need, c.mark_of-old.ensures, c.pages_taken.ensures)

pub overflow_sub-self-2 : goal.overflow_sub-self-2
overflow_sub-self-2 c = let most = counts_most _ _ c.self.invariant.2 c.args.pfn in omega (arith, most, c.zeros_of.ensures, ap zeros_in c.mark_of-old.ensures)

pub set_page-mark-requires-clause-room : goal.set_page-mark-requires-clause-room
set_page-mark-requires-clause-room c e =
    let need = spare_enough _ _ _ c.args.pfn _ c.self.view_is c.requires.room in let room = c.self.invariant.1 in let old = c.mark_of-old.ensures in
    let most = counts_most _ _ c.self.invariant.2 c.args.pfn in let parts = mark_parts c.mark_of-old.result in let place = c.place_of.ensures in let zeros = ap zeros_in old in
    (omega (arith, need, most, parts, place, zeros, old, e, room.pages), omega (arith, need, most, parts, place, zeros, old, e, room.places))

pub put_spare-requires-clause-some : goal.put_spare-requires-clause-some
put_spare-requires-clause-some c =
    let set = c.set_page-mark.ensures in
    cell_some _ (cell_is _ _ c.args.page _ _ set.here c.requires.paged c.requires.there c.write_cell.ensures.kind c.write_cell.ensures.mark)

pub put_spare-requires-clause-room : goal.put_spare-requires-clause-room
put_spare-requires-clause-room c none =
    let set = c.set_page-mark.ensures in
    let need = spare_enough _ _ _ c.args.pfn _ c.self.view_is c.requires.room in
    omega (arith, need, ap mark_or_0 (sym set.cell ∙ none), c.self.invariant.1.numbers, set.numbers)

pub invariant_of-self : goal.invariant_of-self
invariant_of-self c =
    let set = c.set_page-mark.ensures in let put = c.put_spare.ensures in let room = c.self.invariant.1 in
    let is : IsCell c.write_cell.result = cell_is _ _ c.args.page _ _ set.here c.requires.paged c.requires.there c.write_cell.ensures.kind c.write_cell.ensures.mark in
    let need = spare_enough _ _ _ c.args.pfn _ c.self.view_is c.requires.room in
    let left = numbers_left _ _ _ c.self.inside.spare put.in_place put.taken (omega (arith, room.numbers, set.numbers)) in
    let place = c.mark_of-old.ensures in let taken = c.pages_taken.ensures in
    let most = counts_most _ _ c.self.invariant.2 c.args.pfn in let parts = mark_parts c.mark_of-old.result in let told = c.place_of.ensures in let zeros = ap zeros_in place in
    let was = c.zeros_of.ensures in let now = c.zeros_of-2.ensures in (
      subst (λ (m : ValueMap). IsLed m c.set_page-mark.new.pfns.items c.set_page-mark.new.arena.pages) (sym put.values) (set.led c.write_cell.result is c.write_cell.ensures.mark),
      record {
        numbers = omega (arith, left, place, taken, ap mark_or_0 set.cell);
        pages = omega (arith, room.pages, set.pages, place, taken, most, parts, told, zeros, was, now);
        places = omega (arith, need, room.places, set.places, set.capacity, place, taken, most, parts, told, zeros, was, now);
        few = omega (arith, need, room.few, set.places, place, taken, most, parts, told, zeros, was, now);
      },
      subst (λ (m : ValueMap). CountsZeros m (c.self.inside.zeros - c.zeros_of.result + c.zeros_of-2.result)) (sym put.values)
          (count_put _ _ c.args.pfn _ (set.zeros _ c.self.invariant.2) set.cell _ _ _ c.write_cell.ensures.mark (omega (arith, zeros, was, now))),
    )

pub returns-clause-frames : goal.returns-clause-frames
returns-clause-frames c =
    let set = c.set_page-mark.ensures in let f : FrameOf = record { type = c.args.kind; page = option_copied c.args.page } in
    ap (frames_seen c.set_page-mark.new.arena.pages) c.put_spare.ensures.values
    ∙ put_seen _ _ _ _ c.args.pfn _ f set.others c.write_cell.ensures.kind (ap (page_of_mark _) c.write_cell.ensures.mark ∙ set.here)
    ∙ ap (λ (s : Framed). maps.insert s.frames c.args.pfn f) c.self.view_is

pub returns-clause-in_place : goal.returns-clause-in_place
returns-clause-in_place c there =
    let some = page_some _ _ c.args.pfn (subst (λ (s : Framed). IsSome (frame_page s.frames c.args.pfn)) (sym c.self.view_is) there) in
    omega (arith, some, c.mark_of-old.ensures, c.pages_taken.ensures, ap (λ (s : Framed). s.spare) c.self.view_is)
