use Rattle.mig_placed.proofs.Common.{sym, subst}
use Rattle.mig_placed.proofs.Common.{AreCells}
use Rattle.mig_placed.proofs.Cells.{cells_removed, cells_inserted}
use Rattle.mig_placed.proofs.places.Places.set.Goals as goal

pub invariant_of-self : goal.invariant_of-self
invariant_of-self c = cells_removed c.self.inside.index.values c.remove.new.self.values c.args.pfn c.self.invariant c.remove.ensures.values

pub invariant_of-self-2 : goal.invariant_of-self-2
invariant_of-self-2 c =
    cells_inserted c.reserve.new.self.values c.put_spare.new.self.values c.args.pfn c.write_cell.result (subst AreCells (sym c.in-Ok.ensures.values) c.self.invariant) c.write_cell.ensures.cell c.put_spare.ensures.values
