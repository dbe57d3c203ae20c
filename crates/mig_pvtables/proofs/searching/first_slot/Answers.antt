use Rattle.mig_pvtables.proofs.Common.{sym, ap, ◌∙◌}
use Rattle.mig_pvtables.proofs.Slots.{first_slot}
use Rattle.mig_pvtables.proofs.searching.first_slot.Goals as goal

pub returns-then-passes-clause-value : goal.returns-then-passes-clause-value
returns-then-passes-clause-value g c = first_slot _ _ c.loop-slot-test.true (ap (g.T.EntryTest.passing c.args.test.now) (sym c.entry.ensures) ∙ sym c.passes.ensures ∙ c.if-passes.true) c.loop-slot.invariant
