use Rattle.mig_host_m2p.proofs.Common.{◌≡◌, length, sym, ap, ◌∙◌, arith, Some, Cell, rules}
use Rattle.mig_host_m2p.proofs.Standing.{get_empty, get_outside, get_nothing, get_found}
use Rattle.mig_host_m2p.proofs.tree.Tree.get.Goals as goal

pub returns-then-is_empty : goal.returns-then-is_empty
returns-then-is_empty c =
    let x = c.args.self.now in let none : length x.cells.items ≡ 0 = search rules in
    sym (get_empty x.cells.items x.free.items x.spare c.requires c.args.machine none)

pub returns-then-machine-ge-MACHINE_LIMIT : goal.returns-then-machine-ge-MACHINE_LIMIT
returns-then-machine-ge-MACHINE_LIMIT c =
    let x = c.args.self.now in sym (get_outside x.cells.items x.free.items x.spare c.requires c.args.machine (omega (arith, c.if-machine-ge-MACHINE_LIMIT.true)))

pub returns-then-cell-machine : goal.returns-then-cell-machine
returns-then-cell-machine c =
    let x = c.args.self.now in
    sym (get_nothing x.cells.items x.free.items x.spare c.requires c.args.machine (c.seek-at.ensures.none (λ e. c.if-cell-machine.true (ap (λ (y : Cell). y.machine) c.cell.ensures ∙ e))))

pub returns : goal.returns
returns c =
    let x = c.args.self.now in
    ap (λ (y : Cell). Some y.pfn) c.cell-2.ensures
    ∙ sym (get_found x.cells.items x.free.items x.spare c.requires c.args.machine c.seek-at.result c.seek-at.ensures.used (ap (λ (y : Cell). y.machine) (sym c.cell.ensures) ∙ c.if-cell-machine.false) (omega (arith, c.if-machine-ge-MACHINE_LIMIT.false)))
