use Rattle.mig_dirtysave.proofs.Common.{◌≡◌, ℕ, ◌+◌, ◌*◌, ◌<◌, false, is_some, types_seen}
use Rattle.mig_dirtysave.proofs.listing.has_frame.Given as goal

abbrev pub invariant-loop-slot : goal.invariant-loop-slot
invariant-loop-slot l = (s : ℕ) → s < l.slot → is_some (types_seen l.types (512 * l.index + s)) ≡ false
