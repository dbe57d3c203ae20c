use Rattle.mig_pagestore.proofs.Common.{length, ap, arith}
use Rattle.mig_pagestore.proofs.Seen.{led_empty}
use Rattle.mig_pagestore.proofs.Counts.{counts_none}
use Rattle.mig_pagestore.proofs.frame_store.FrameStore.new.Goals as goal

pub invariant_of-result : goal.invariant_of-result
invariant_of-result c = (
  led_empty _ _ _ c.new.ensures.values c.new-2.ensures.items c.new-3.ensures.pages,
  let none = ap length c.new-2.ensures.items in record { numbers = omega arith; pages = omega arith; places = omega (arith, none); few = omega (arith, none) },
  counts_none _ c.new.ensures.values,
)
