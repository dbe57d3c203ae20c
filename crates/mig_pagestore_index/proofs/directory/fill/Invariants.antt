use Rattle.mig_pagestore_index.proofs.Common.{◌≤◌, ◌*◌, ◌-◌, length}
use Rattle.mig_pagestore_index.proofs.directory.fill.Given as goal

abbrev pub invariant-loop-alloc : goal.invariant-loop-alloc
invariant-loop-alloc l = length l.initial.ready.items ≤ length l.ready.items

abbrev pub decreases-loop-alloc : goal.decreases-loop-alloc
decreases-loop-alloc l = 2 * l.keys - length l.ready.items
