use Rattle.mig_placed.proofs.Common.{arith}
use Rattle.mig_placed.proofs.RunSteps.{run_over, run_begun, run_longer}
use Rattle.mig_placed.proofs.runs.longer.Goals as goal

pub returns-then-word-eq0-clause-run : goal.returns-then-word-eq0-clause-run
returns-then-word-eq0-clause-run c = λ cells from is first. run_over cells from c.args.run is c.args.next first c.if-word-eq0.true

pub returns-then-run-eq0-clause-run : goal.returns-then-run-eq0-clause-run
returns-then-run-eq0-clause-run c = λ cells from is first. run_begun cells from c.args.run is c.args.next first c.if-run-eq0.true (omega (arith, c.if-word-eq0.false))

pub returns-clause-run : goal.returns-clause-run
returns-clause-run c = λ cells from is first.
    run_longer cells from c.args.run is c.args.next first (omega (arith, c.if-word-eq0.false)) (omega (arith, c.if-at-run.false, c.from.ensures))
