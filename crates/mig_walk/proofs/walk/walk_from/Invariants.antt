use Rattle.mig_walk.proofs.Common.{◌≤◌, CanBeWalked, IsReached}
use Rattle.mig_walk.proofs.walk.walk_from.Given as goal

abbrev pub invariant-loop-level : goal.invariant-loop-level
invariant-loop-level g l = record {
  most : l.level ≤ 4;
  reached : CanBeWalked (g.L.Levels.standing l.levels) l.vcpu → IsReached (g.L.Levels.standing l.levels) l.vcpu l.address 4 l.root → IsReached (g.L.Levels.standing l.levels) l.vcpu l.address l.level l.number;
}

abbrev pub decreases-loop-level : goal.decreases-loop-level
decreases-loop-level g l = l.level
