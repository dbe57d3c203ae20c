use Rattle.mig_bytes.proofs.Common.{rules}
use Rattle.mig_bytes.proofs.Taking.{passed_over}
use Rattle.mig_bytes.proofs.source.Source.pass.Goals as goal

pub returns-clause-bytes : goal.returns-clause-bytes
returns-clause-bytes g c = passed_over _ _ _ _ c.read-taken.result c.are_bytes.ensures (λ some. search rules) c.read-taken.ensures.bound c.read-taken.ensures.bytes
