use Rattle.mig_legacy.proofs.BatchLaws.{batches_judged}
use Rattle.mig_legacy.proofs.chunk_law.batches_are_judged.Goals as goal

pub returns : goal.returns
returns c = batches_judged
