use Rattle.mig_policy.proofs.Common.{sym}
use Rattle.mig_policy.proofs.KeyLaws.{first_fault_is_computed}
use Rattle.mig_policy.proofs.faults.pairs_fault.Goals as goal

pub returns-clause-first : goal.returns-clause-first
returns-clause-first c = (first_fault_is_computed c.args.bytes.now c.first_fault.result).0 (sym c.first_fault.ensures)
