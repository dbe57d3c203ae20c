use Rattle.std.proofs.Common.{◌+◌, ◌≤◌}
use Rattle.mig_test_format.proofs.store.put_many.Given as goal

abbrev pub invariant-loop-pfn : goal.invariant-loop-pfn
invariant-loop-pfn l = 30000 ≤ l.store.spare + l.pfn
