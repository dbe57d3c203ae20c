use Rattle.mig_host_m2p.proofs.Common.{◌-◌, arith, cell_at}
use Rattle.mig_pagestore_index.proofs.Fans.{item_is}
use Rattle.mig_host_m2p.proofs.Ways.{room_below}
use Rattle.mig_host_m2p.proofs.Standing.{hung_now}
use Rattle.mig_host_m2p.proofs.tree.Tree.hang.Goals as goal

pub returns : goal.returns
returns c =
    let x = c.args.self.now in let r = c.requires in
    let now = hung_now x.cells.items x.free.items x.spare r.sound c.args.at c.args.machine c.args.pfn r.below r.used r.agrees
    (room_below (cell_at x.cells.items) r.sound.grown c.args.at c.args.machine r.used r.agrees (r.none c.args.at r.used) r.below) r.ends r.none r.room
    c.index-cell.result.now (item_is x.free.items (x.spare - 1) _ _ (omega (arith, r.room, r.sound.room, r.sound.wide)) c.index-cell.ensures)
    c.cell.result.now c.cell-2.result.now c.leading.result c.cell.ensures c.cell-2.ensures c.leading.ensures in
    record { sound = now.0; kept = now.1; spare = omega (arith, r.room) }
