use Rattle.mig_pvtables.proofs.Common.{sym}
use Rattle.mig_blanked.proofs.Marks.{all_marked, next_marked, none_marked}
use Rattle.mig_blanked.proofs.listed.mark_listed.Goals as goal

pub loop-pfn-init : goal.loop-pfn-init
loop-pfn-init c = none_marked _ _ _ c.new-marks.ensures.values

pub loop-pfn-preserved : goal.loop-pfn-preserved
loop-pfn-preserved c = next_marked _ _ _ _ c.loop-pfn.invariant _ (sym c.in-Some.ensures.value) _ c.in_ok-mark.ensures

pub returns : goal.returns
returns c = all_marked _ _ _ _ c.loop-pfn.invariant (sym c.in_default.ensures.value)
