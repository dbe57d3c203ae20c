use Rattle.mig_host.proofs.RestoredHosts.{AreCounted}
use Rattle.mig_host.proofs.restore.count_up.Given as goal

abbrev pub invariant-loop-i : goal.invariant-loop-i
invariant-loop-i l = AreCounted l.guest.frames l.base l.from l.i l.machines.machines
