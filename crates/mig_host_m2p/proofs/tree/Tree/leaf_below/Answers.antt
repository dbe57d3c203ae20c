use Rattle.mig_host_m2p.proofs.Common.{◌≡◌, ◌≢◌, sym, ap, ◌∙◌, arith, either_below, cell_at}
use Rattle.mig_host_m2p.proofs.Ways.{FallsOn, falls_on, nothing_below}
use Rattle.mig_host_m2p.proofs.tree.Tree.leaf_below.Goals as goal

pub loop-at-preserved : goal.loop-at-preserved
loop-at-preserved c =
    let inv = c.loop-at.invariant in let at = cell_at c.args.self.now.cells.items in
    let first : c.any_below.result ≡ either_below (at c.loop-at.at) = c.any_below.ensures ∙ ap either_below c.cell.ensures in
    let next : c.any_below-at.result ≡ either_below (at c.loop-at.at) = c.any_below-at.ensures ∙ ap either_below c.cell-in-loop-at.ensures in
    let some : c.any_below-at.result ≢ 0 = λ e. c.loop-at-test.true (first ∙ sym next ∙ e) in
    let on : FallsOn at c.requires.sound.grown c.any_below-at.result c.loop-at.at c.args.from =
    falls_on at c.requires.sound.grown c.loop-at.at c.args.from c.any_below-at.result inv.used inv.deep inv.agrees next some in
    record { used = on.used; deep = omega (arith, on.deep, inv.deep); agrees = on.agrees; there = λ _. omega (arith, some) }

pub loop-at-smaller : goal.loop-at-smaller
loop-at-smaller c =
    let inv = c.loop-at.invariant in let at = cell_at c.args.self.now.cells.items in
    let first : c.any_below.result ≡ either_below (at c.loop-at.at) = c.any_below.ensures ∙ ap either_below c.cell.ensures in
    let next : c.any_below-at.result ≡ either_below (at c.loop-at.at) = c.any_below-at.ensures ∙ ap either_below c.cell-in-loop-at.ensures in
    let on : FallsOn at c.requires.sound.grown c.any_below-at.result c.loop-at.at c.args.from =
    falls_on at c.requires.sound.grown c.loop-at.at c.args.from c.any_below-at.result inv.used inv.deep inv.agrees next (λ e. c.loop-at-test.true (first ∙ sym next ∙ e)) in
    omega (arith, on.deep, on.low)

pub returns-clause-ends : goal.returns-clause-ends
returns-clause-ends c =
    let at = cell_at c.args.self.now.cells.items in
    nothing_below (at c.loop-at.at) (ap either_below (sym c.cell.ensures) ∙ sym c.any_below.ensures ∙ c.loop-at-test.false)
