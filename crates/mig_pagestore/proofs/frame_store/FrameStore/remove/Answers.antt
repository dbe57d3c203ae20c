use Rattle.mig_pagestore.proofs.Common.{◌-◌, sym, ap, subst, arith, ValueMap, IsLed, zeros_in, CountsZeros}
use Rattle.mig_pagestore.proofs.Counts.{counts_most}
use Rattle.mig_pagestore.proofs.Seen.{count_out}
use Rattle.mig_pagestore.proofs.frame_store.FrameStore.remove.Goals as goal

pub overflow_sub-self : goal.overflow_sub-self
overflow_sub-self c = let most = counts_most _ _ c.self.invariant.2 c.args.pfn in omega (arith, most, c.zeros_of.ensures, ap zeros_in c.mark_of-mark.ensures)

pub invariant_of-self : goal.invariant_of-self
invariant_of-self c =
    let take = c.take_page.ensures in let room = c.self.invariant.1 in (
      subst (λ (m : ValueMap). IsLed m c.take_page.new.pfns.items c.take_page.new.arena.pages) (sym c.remove.ensures.values) take.led,
      record {
        numbers = omega (arith, room.numbers, take.numbers, c.remove.ensures.spare);
        pages = omega (arith, room.pages, take.pages);
        places = omega (arith, room.places, take.places, take.capacity);
        few = omega (arith, room.few, take.places);
      },
      subst (λ (m : ValueMap). CountsZeros m (c.self.inside.zeros - c.zeros_of.result)) (sym c.remove.ensures.values)
          (count_out _ _ c.args.pfn _ (take.zeros _ c.self.invariant.2) take.cell _ (omega (arith, c.zeros_of.ensures, ap zeros_in c.mark_of-mark.ensures))),
    )
