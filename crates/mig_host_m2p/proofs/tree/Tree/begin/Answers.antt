use Rattle.mig_host_m2p.proofs.Common.{◌≡◌, length, refl, arith, free_cell, rules}
use Rattle.mig_host_m2p.proofs.Standing.{root_now}
use Rattle.mig_host_m2p.proofs.tree.Tree.begin.Goals as goal

pub returns-in_ok-resize : goal.returns-in_ok-resize
returns-in_ok-resize c =
    let x = c.args.self.now in let none : length x.cells.items ≡ 0 = search rules in
    let one : length c.resize.new.self.items ≡ 1 = omega (arith, c.in_ok-resize.ensures.len, c.resize.new.self.ok.0) in
    let root = root_now x.cells.items c.resize.new.self.items x.free.items x.spare c.requires.sound none one (c.in_ok-resize.ensures.by_index.1 0 free_cell refl (omega (arith, none, x.cells.ok.0)) (omega arith)) c.requires.wide in
    record { sound = root.0; kept = root.1; free = search rules; spare = search rules; begun = omega (arith, one, none) }
