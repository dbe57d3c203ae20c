use Rattle.mig_guest.proofs.Common.{pfns_of_words}
use Rattle.std.proofs.Common.{◌≡◌, ℕ, ◌*◌, ◌<◌, nat_lt}
use Rattle.mig_guest.proofs.pfn_set.make.fill.Given as goal

abbrev pub invariant-loop-index : goal.invariant-loop-index
invariant-loop-index l = (p : ℕ) → p < 64 * l.index → pfns_of_words l.words p ≡ nat_lt p l.width
