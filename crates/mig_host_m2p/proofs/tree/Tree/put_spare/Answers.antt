use Rattle.mig_host_m2p.proofs.Common.{refl, arith, sym, ap, ◌∙◌, Cell}
use Rattle.mig_host_m2p.proofs.Standing.{room_begun, get_nothing, found_free, put_now}
use Rattle.mig_host_m2p.proofs.tree.Tree.put_spare.Goals as goal

pub seek-at-requires-clause-begun : goal.seek-at-requires-clause-begun
seek-at-requires-clause-begun c = let x = c.args.self.now in room_begun x.cells.items x.free.items x.spare c.requires.sound c.args.machine c.requires.room

pub returns-then-cell-machine : goal.returns-then-cell-machine
returns-then-cell-machine c =
    let x = c.args.self.now in
    let now = put_now x.cells.items x.free.items x.spare c.requires.sound c.seek-at.result c.args.machine c.args.pfn c.seek-at.ensures.used (ap (λ (y : Cell). y.machine) (sym c.cell.ensures) ∙ c.if-cell-machine.true) c.requires.below
    c.cell-then-cell-machine.result.now c.having.result c.cell-then-cell-machine.ensures c.having.ensures in
    record { sound = now.0; kept = now.1; taken = omega arith; in_place = λ _. refl }

pub hang-requires-clause-room : goal.hang-requires-clause-room
hang-requires-clause-room c =
    let x = c.args.self.now in
    c.requires.room (get_nothing x.cells.items x.free.items x.spare c.requires.sound c.args.machine (c.seek-at.ensures.none (λ e. c.if-cell-machine.false (ap (λ (y : Cell). y.machine) c.cell.ensures ∙ e))))

pub returns-clause-in_place : goal.returns-clause-in_place
returns-clause-in_place c some =
    let x = c.args.self.now in
    absurd (found_free x.cells.items x.free.items x.spare c.requires.sound c.args.machine c.seek-at.result c.seek-at.ensures.none (λ e. c.if-cell-machine.false (ap (λ (y : Cell). y.machine) c.cell.ensures ∙ e)) some)
