use Rattle.mig_host_m2p.proofs.Common.{◌≡◌, ◌-◌, ◌<◌, true, Agree, cell_at}
use Rattle.mig_host_m2p.proofs.tree.Tree.above.Given as goal

abbrev pub invariant-loop-at : goal.invariant-loop-at
invariant-loop-at l = record {
  used : (cell_at l.self.cells.items l.at).used ≡ true;
  agrees : Agree (cell_at l.self.cells.items l.at).depth (cell_at l.self.cells.items l.at).machine (cell_at l.self.cells.items l.cell).machine;
  above : (cell_at l.self.cells.items l.at).depth < (cell_at l.self.cells.items l.cell).depth;
  machine : l.machine ≡ (cell_at l.self.cells.items l.cell).machine;
}

abbrev pub decreases-loop-at : goal.decreases-loop-at
decreases-loop-at l = 40 - (cell_at l.self.cells.items l.at).depth
