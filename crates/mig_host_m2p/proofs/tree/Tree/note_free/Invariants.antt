use Rattle.mig_host_m2p.proofs.Common.{◌≡◌, ◌+◌, length, cell_at, AreFree}
use Rattle.mig_host_m2p.proofs.tree.Tree.note_free.Given as goal

abbrev pub invariant-loop-cell : goal.invariant-loop-cell
invariant-loop-cell l = record {
  same : l.self.cells.items ≡ l.fn.self.cells.items;
  free : AreFree (cell_at l.fn.self.cells.items) l.self.free.items l.self.spare l.cell;
  long : length l.self.free.items ≡ length l.fn.self.free.items;
  count : l.self.spare + l.from ≡ l.fn.self.spare + l.cell;
}
