use Rattle.mig_host_m2p.proofs.Common.{◌≡◌, sym, ap, ◌∙◌, arith, Cell, next_cell, cell_at}
use Rattle.mig_host_m2p.proofs.Ways.{LeadsOn, leads_on}
use Rattle.mig_host_m2p.proofs.tree.Tree.above.Goals as goal

step : goal.loop-at-preserved
step c =
    let inv = c.loop-at.invariant in let at = cell_at c.args.self.now.cells.items in let key = (at c.args.cell).machine in
    let first : c.towards.result ≡ next_cell (at c.loop-at.at) key = c.towards.ensures ∙ ap (λ (x : Cell). next_cell x c.cell.result.now.machine) c.cell-in-loop-at.ensures ∙ ap (next_cell (at c.loop-at.at)) inv.machine in
    let next : c.towards-at.result ≡ next_cell (at c.loop-at.at) key = c.towards-at.ensures ∙ ap (λ (x : Cell). next_cell x c.cell.result.now.machine) c.cell-in-loop-at-2.ensures ∙ ap (next_cell (at c.loop-at.at)) inv.machine in
    let on : LeadsOn at c.requires.sound.grown c.towards-at.result c.loop-at.at c.args.cell =
    leads_on at c.requires.sound.grown c.loop-at.at c.args.cell c.towards-at.result inv.used c.requires.used inv.agrees inv.above next (λ e. c.loop-at-test.true (first ∙ sym next ∙ e)) in
    record { used = on.used; agrees = on.agrees; above = on.above; machine = inv.machine }

pub loop-at-preserved : goal.loop-at-preserved
loop-at-preserved = step

pub loop-at-smaller : goal.loop-at-smaller
loop-at-smaller c =
    let inv = c.loop-at.invariant in let at = cell_at c.args.self.now.cells.items in let key = (at c.args.cell).machine in
    let first : c.towards.result ≡ next_cell (at c.loop-at.at) key = c.towards.ensures ∙ ap (λ (x : Cell). next_cell x c.cell.result.now.machine) c.cell-in-loop-at.ensures ∙ ap (next_cell (at c.loop-at.at)) inv.machine in
    let next : c.towards-at.result ≡ next_cell (at c.loop-at.at) key = c.towards-at.ensures ∙ ap (λ (x : Cell). next_cell x c.cell.result.now.machine) c.cell-in-loop-at-2.ensures ∙ ap (next_cell (at c.loop-at.at)) inv.machine in
    let on : LeadsOn at c.requires.sound.grown c.towards-at.result c.loop-at.at c.args.cell =
    leads_on at c.requires.sound.grown c.loop-at.at c.args.cell c.towards-at.result inv.used c.requires.used inv.agrees inv.above next (λ e. c.loop-at-test.true (first ∙ sym next ∙ e)) in
    omega (arith, on.deep, on.low)
