use Rattle.mig_dirtysave.proofs.Common.{◌≡◌, ℕ, ◌<◌, get_or, None}
use Rattle.mig_dirtysave.proofs.listing.clear.Given as goal

abbrev pub invariant-loop-mark : goal.invariant-loop-mark
invariant-loop-mark l = (k : ℕ) → k < l.mark-index → get_or l.marks k None ≡ None
