use Rattle.std.proofs.Common.{◌+◌, ◌++◌, take, drop, replicate, arith, length-take-le}
use Rattle.mig_guest.specs.PartKeys.{context_key}
use Rattle.mig_hvm.proofs.ContextParts.{within, written, ended}
use Rattle.mig_hvm.proofs.context.read_context.Goals as goal

pub write_part-requires-clause-range : goal.write_part-requires-clause-range
write_part-requires-clause-range c =
    within c.args.guest.now c.set_part.new.self context_key _ c.in_ok-set_part.ensures.ok (c.in-Ok.end + 8)
    (let size = length-take-le (c.in-Ok.end + 8) c.args.body.now c.in-Ok.ensures.bound in omega (arith, size))

pub returns-clause-ok : goal.returns-clause-ok
returns-clause-ok c =
    rw (← c.in-Ok.ensures.value) (
    written c.args.guest.now c.set_part.new.self context_key _ c.in_ok-set_part.ensures.ok c.write_part.new.self
    (λ p. take c.in-Ok.end p ++ replicate 8 0 ++ drop (c.in-Ok.end + 8) p) (take c.in-Ok.end c.args.body.now ++ replicate 8 0) c.write_part.ensures
    (ended c.args.body.now (replicate 8 0) c.in-Ok.end (c.in-Ok.end + 8) (omega arith) c.in-Ok.ensures.bound)
    )
