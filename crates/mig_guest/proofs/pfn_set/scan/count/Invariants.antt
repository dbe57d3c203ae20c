use Rattle.mig_guest.proofs.Common.{◌≡◌, ◌*◌, pfns_of_words, size}
use Rattle.mig_guest.proofs.pfn_set.scan.count.Given as goal

abbrev pub invariant-loop-index : goal.invariant-loop-index
invariant-loop-index l = l.members ≡ size (64 * l.index) (pfns_of_words l.words)
