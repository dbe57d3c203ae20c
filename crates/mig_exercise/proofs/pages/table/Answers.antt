use Rattle.mig_exercise.proofs.Common.{◌+◌, ◌*◌, ◌∙◌, arith}
use Rattle.mig_exercise.proofs.LongPages.{table_is, zeros}
use Rattle.mig_exercise.proofs.pages.table.Goals as goal

pub returns : goal.returns
returns c = c.put_falling.ensures (λ _. 0) (zeros 512) ∙ table_is c.args.frames c.args.count c.args.pfn (c.machine_of.result * 4096 + 103) (omega arith) (omega (arith, c.machine_of.ensures))
