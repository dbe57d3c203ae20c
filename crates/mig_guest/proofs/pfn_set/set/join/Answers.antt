use Rattle.mig_guest.proofs.Common.{arith, rules}
use Rattle.mig_guest.proofs.Changed.{both_joined}
use Rattle.mig_guest.proofs.pfn_set.set.join.Goals as goal

pub returns : goal.returns
returns c = both_joined _ _ _ (search rules) (search rules) (λ k less. c.loop-index.invariant.done k (omega arith))
