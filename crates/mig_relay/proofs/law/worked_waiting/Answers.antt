use Rattle.mig_relay.proofs.Common.{refl, arith}
use Rattle.mig_relay.proofs.law.worked_waiting.Goals as goal

pub returns-clause-at_page : goal.returns-clause-at_page
returns-clause-at_page c outer o records head coming stood many = (refl, omega (arith, many))
