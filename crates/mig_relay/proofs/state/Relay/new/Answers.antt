use Rattle.mig_relay.proofs.Common.{[], refl, AtStart}
use Rattle.mig_relay.proofs.Steps.{begins}
use Rattle.mig_relay.proofs.state.Relay.new.Goals as goal

pub returns-clause-empty : goal.returns-clause-empty
returns-clause-empty c = begins _ (refl, refl, refl) refl

pub returns-clause-stands : goal.returns-clause-stands
returns-clause-stands c = (AtStart, [], (refl, refl, refl))
