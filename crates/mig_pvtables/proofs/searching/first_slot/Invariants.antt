use Rattle.mig_pvtables.proofs.Common.{◌≡◌, ℕ, ◌<◌, false, entry}
use Rattle.mig_pvtables.proofs.searching.first_slot.Given as goal

abbrev pub invariant-loop-slot : goal.invariant-loop-slot
invariant-loop-slot g l = (k : ℕ) → k < l.slot → g.T.EntryTest.passing l.test (entry l.level l.page k) ≡ false
