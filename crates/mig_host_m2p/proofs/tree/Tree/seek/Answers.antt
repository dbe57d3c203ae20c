use Rattle.mig_host_m2p.proofs.Common.{sym, ap, ◌∙◌, Cell, next_cell, cell_at}
use Rattle.mig_host_m2p.proofs.Ways.{SeeksOn, seeks_on, ended}
use Rattle.mig_host_m2p.proofs.tree.Tree.seek.Goals as goal

pub returns-then-next-eq0-clause-none : goal.returns-then-next-eq0-clause-none
returns-then-next-eq0-clause-none c other =
    let inv = c.loop-next.invariant in let at = cell_at c.args.self.now.cells.items in
    ended at c.requires.sound.grown c.loop-next.at c.args.machine inv.used inv.agrees other inv.later
    (ap (λ (x : Cell). next_cell x c.args.machine) (sym c.cell-in-loop-next.ensures) ∙ sym c.towards-next.ensures ∙ c.if-next-eq0.true)

pub loop-next-preserved : goal.loop-next-preserved
loop-next-preserved c =
    let inv = c.loop-next.invariant in let at = cell_at c.args.self.now.cells.items in
    let on : SeeksOn at c.requires.sound.grown c.towards-next.result c.loop-next.at c.args.machine =
    seeks_on at c.requires.sound.grown c.loop-next.at c.args.machine c.towards-next.result inv.used inv.agrees
    (λ e. c.loop-next-test.true (ap (λ (x : Cell). x.machine) c.cell.ensures ∙ e)) inv.later
    (c.towards-next.ensures ∙ ap (λ (x : Cell). next_cell x c.args.machine) c.cell-in-loop-next.ensures) c.if-next-eq0.false in
    record { used = on.used; agrees = on.agrees; later = on.later }
