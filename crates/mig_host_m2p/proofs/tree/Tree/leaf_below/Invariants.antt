use Rattle.mig_host_m2p.proofs.Common.{◌≡◌, ◌-◌, ◌<◌, ◌≤◌, true, Agree, cell_at}
use Rattle.mig_host_m2p.proofs.tree.Tree.leaf_below.Given as goal

abbrev pub invariant-loop-at : goal.invariant-loop-at
invariant-loop-at l = record {
  used : (cell_at l.self.cells.items l.at).used ≡ true;
  deep : (cell_at l.self.cells.items l.from).depth ≤ (cell_at l.self.cells.items l.at).depth;
  agrees : Agree (cell_at l.self.cells.items l.from).depth (cell_at l.self.cells.items l.at).machine (cell_at l.self.cells.items l.from).machine;
  there : 0 < l.from → 0 < l.at;
}

abbrev pub decreases-loop-at : goal.decreases-loop-at
decreases-loop-at l = 40 - (cell_at l.self.cells.items l.at).depth
