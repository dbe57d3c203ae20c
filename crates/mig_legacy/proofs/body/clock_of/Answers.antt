use Rattle.mig_legacy.proofs.Common.{rules}
use Rattle.mig_legacy.proofs.Taking.{clock_joined}
use Rattle.mig_legacy.proofs.body.clock_of.Goals as goal

pub returns : goal.returns
returns c = clock_joined _ _ _ _ _ c.args.bytes.now (search rules) (search rules) c.in_ok-put.ensures.ok c.in_ok-put-2.ensures.ok c.in_ok-put-3.ensures.ok c.in_ok-put-4.ensures.ok
