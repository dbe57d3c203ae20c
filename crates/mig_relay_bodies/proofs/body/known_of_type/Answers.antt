use Rattle.mig_relay_bodies.proofs.Types.{plain_known, context_known}
use Rattle.mig_relay_bodies.proofs.body.known_of_type.Goals as goal

pub returns-in-HvmContext-clause-known : goal.returns-in-HvmContext-clause-known
returns-in-HvmContext-clause-known c = context_known c.args.this c.args.len c.in-HvmContext.is

pub returns-in_default-clause-known : goal.returns-in_default-clause-known
returns-in_default-clause-known c = plain_known c.args.this c.args.len (assumption c.in_default) c.requires
