use Rattle.mig_host_laws.proofs.AtEnd.{fault_named}
use Rattle.mig_host_laws.proofs.standing_law.guest_fault_is_least.Goals as goal

pub returns : goal.returns
returns c = fault_named
