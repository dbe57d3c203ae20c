use Rattle.mig_pvtables.proofs.Common.{length, parts_after}
use Rattle.mig_pvtables.proofs.BlankCodes.{ChangedUpTo}
use Rattle.std.specs.FinMap as maps
use Rattle.mig_pvtables.proofs.walking.each_context.Given as goal

abbrev pub invariant-loop-key : goal.invariant-loop-key
invariant-loop-key g l = ChangedUpTo 4 (λ key. g.S.ContextStep.contexts l.step key.key1) l.fn.guest l.after l.guest

abbrev pub decreases-loop-key : goal.decreases-loop-key
decreases-loop-key g l = length (parts_after 4 l.after (maps.entries l.fn.guest.parts))
