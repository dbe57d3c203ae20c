use Rattle.mig_guest.proofs.Fills.{ones_below, ones_above, all_ones}
use Rattle.mig_guest.proofs.pfn_set.make.low_bits.Goals as goal

pub returns-then-bits-lt64-clause-below : goal.returns-then-bits-lt64-clause-below
returns-then-bits-lt64-clause-below c = λ i small less. ones_below c.args.bits i c.if-bits-lt64.true less

pub returns-then-bits-lt64-clause-above : goal.returns-then-bits-lt64-clause-above
returns-then-bits-lt64-clause-above c = λ i small le. ones_above c.args.bits i c.if-bits-lt64.true le

pub returns-else-bits-lt64-clause-below : goal.returns-else-bits-lt64-clause-below
returns-else-bits-lt64-clause-below c = λ i small less. all_ones i small
