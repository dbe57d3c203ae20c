use Rattle.mig_exercise.proofs.LongPages.{context_made}
use Rattle.mig_exercise.proofs.parts.context.Goals as goal

pub returns : goal.returns
returns c =
    context_made c.args.frames c.machine_of-3.result c.machine_of-2.result c.machine_of.result _ _ _ _ c.machine_of-3.ensures c.machine_of-2.ensures c.machine_of.ensures c.put_u64_le.ensures c.put_u64_le-2.ensures c.put_u64_le-3.ensures c.put_u64_le-4.ensures
