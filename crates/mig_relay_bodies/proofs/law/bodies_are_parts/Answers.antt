use Rattle.mig_relay_bodies.proofs.Types.{bodies_are_parts}
use Rattle.mig_relay_bodies.proofs.law.bodies_are_parts.Goals as goal

pub returns : goal.returns
returns c = bodies_are_parts
