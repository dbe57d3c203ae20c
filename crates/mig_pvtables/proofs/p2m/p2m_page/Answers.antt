use Rattle.mig_pvtables.proofs.Common.{◌-◌, ◌^◌, sym, ap, ◌∙◌, arith, unwrap_or}
use Rattle.mig_pvtables.proofs.LongSteps.{next_below, one_changed, walk_start, walk_end}
use Rattle.mig_pvtables.proofs.p2m.p2m_page.Goals.{in-Some, in-None}
use Rattle.mig_pvtables.proofs.p2m.p2m_page.Goals as goal

pub loop-slot-init : goal.loop-slot-init
loop-slot-init g c = walk_start c.fits-page c.told-page

pub loop-slot-preserved : goal.loop-slot-preserved
loop-slot-preserved g c = elim c.match-mfn_of.branch [
  | in-Some w ↦ one_changed c.loop-slot.invariant c.loop-slot-test.true (next_below c.loop-slot.slot) (w.page-is ∙ w.put_u64_le.ensures) (ap (λ o. unwrap_or o (2 ^ 64 - 1)) (sym w.in-Some.is ∙ c.mfn_of.ensures.value))
  | in-None w ↦ one_changed c.loop-slot.invariant c.loop-slot-test.true (next_below c.loop-slot.slot) (w.page-is ∙ w.put_u64_le-in-None.ensures) (ap (λ o. unwrap_or o (2 ^ 64 - 1)) (sym w.in-None.is ∙ c.mfn_of.ensures.value))
]

pub returns : goal.returns
returns g c = walk_end c.loop-slot.slot c.loop-slot.invariant (omega (arith, c.loop-slot-test.false, c.loop-slot.auto.slot-end))
