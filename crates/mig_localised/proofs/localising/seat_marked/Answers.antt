use Rattle.std.proofs.Common.{ap, is_some}
use Rattle.mig_localised.proofs.Seated.{all_seated, next_seated, none_seated}
use Rattle.mig_localised.proofs.localising.seat_marked.Goals as goal

pub loop-pfn-init : goal.loop-pfn-init
loop-pfn-init c = none_seated _ _

pub loop-pfn-preserved : goal.loop-pfn-preserved
loop-pfn-preserved c = next_seated _ _ _ _ c.loop-pfn.invariant _ c.in-Some.ensures.small c.in-Some.ensures.least.0 c.in-Some.ensures.least.1 (ap is_some c.in-Some.ensures.there) _ c.in_ok-seat.ensures

pub returns : goal.returns
returns c = all_seated _ _ _ _ c.loop-pfn.invariant c.in_default.ensures.none
