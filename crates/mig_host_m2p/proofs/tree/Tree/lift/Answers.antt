use Rattle.mig_host_m2p.proofs.Common.{arith, rules}
use Rattle.mig_host_m2p.proofs.Standing.{within, lifted_now}
use Rattle.mig_host_m2p.proofs.tree.Tree.lift.Goals as goal

pub index_mut-requires-4 : goal.index_mut-requires-4
index_mut-requires-4 c =
    let x = c.args.self.now in let r = c.requires in
    let room = within x.cells.items x.free.items x.spare r.sound c.above-above.result c.args.at c.args.leaf r.some r.used r.leaf r.leaf_used r.ends r.agrees c.above-above.ensures.used c.above-above.ensures.leads in
    omega (arith, room, x.free.ok.0)

pub returns : goal.returns
returns c =
    let x = c.args.self.now in let r = c.requires in
    let now = lifted_now x.cells.items x.free.items x.spare r.sound c.above-above.result c.args.at c.args.leaf r.some r.used r.leaf r.leaf_used r.ends r.agrees c.above-above.ensures.used c.above-above.ensures.leads
    c.cell-moved.result.now c.cell.result.now c.cell-2.result.now c.leading.result c.having.result c.cell-moved.ensures c.cell.ensures c.leading.ensures c.cell-2.ensures c.having.ensures in
    record { sound = now.0; kept = now.1; spare = search rules }
