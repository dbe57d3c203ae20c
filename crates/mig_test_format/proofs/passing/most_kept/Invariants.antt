use Rattle.mig_relay.specs.Keeping.{Stands}
use Rattle.mig_test_format.proofs.passing.most_kept.Given as goal

abbrev pub invariant-loop-steps : goal.invariant-loop-steps
invariant-loop-steps l = record {
  stands : Stands l.relay;
}
