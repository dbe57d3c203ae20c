use Rattle.mig_host_m2p.proofs.Common.{◌≡◌, ℕ, ◌-◌, ◌≤◌, true, Agree, cell_at}
use Rattle.mig_host_m2p.proofs.tree.Tree.seek.Given as goal

abbrev pub invariant-loop-next : goal.invariant-loop-next
invariant-loop-next l = record {
  used : (cell_at l.self.cells.items l.at).used ≡ true;
  agrees : Agree (cell_at l.self.cells.items l.at).depth (cell_at l.self.cells.items l.at).machine l.machine;
  later : (j : ℕ) → (cell_at l.self.cells.items j).used ≡ true → (cell_at l.self.cells.items j).machine ≡ l.machine → (cell_at l.self.cells.items l.at).depth ≤ (cell_at l.self.cells.items j).depth;
}

abbrev pub decreases-loop-next : goal.decreases-loop-next
decreases-loop-next l = 40 - (cell_at l.self.cells.items l.at).depth
