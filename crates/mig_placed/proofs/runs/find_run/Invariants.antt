use Rattle.mig_placed.proofs.Common.{◌≤◌, ◌-◌}
use Rattle.mig_placed.specs.Runs.{IsRunFrom, IsSmallRun}
use Rattle.mig_placed.proofs.runs.find_run.Given as goal

abbrev pub invariant-loop-run : goal.invariant-loop-run
invariant-loop-run l = record {
  run : IsRunFrom l.places l.from l.run;
  small : IsSmallRun l.run;
  most : l.run.frames ≤ l.most;
}

abbrev pub decreases-loop-run : goal.decreases-loop-run
decreases-loop-run l = l.most - l.run.frames
