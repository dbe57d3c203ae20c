use Rattle.std.specs.FinMap as maps
use Rattle.mig_host_m2p.proofs.Common.{refl, ap, ◌∙◌, arith, free_cell}
use Rattle.mig_host_m2p.proofs.Standing.{filled_now}
use Rattle.mig_host_m2p.proofs.tree.Tree.extend.Goals as goal

pub note_free-requires-clause-sound : goal.note_free-requires-clause-sound
note_free-requires-clause-sound c =
    let x = c.args.self.now in let r = c.requires in
    let now = filled_now x.cells.items c.resize.new.self.items x.free.items x.spare r.sound c.args.wanted (omega (arith, c.in_ok-resize.ensures.len, c.resize.new.self.ok.0)) r.more
    (λ k lt. c.in_ok-resize.ensures.by_index.0 k free_cell (omega (arith, lt, r.more)) (omega (arith, lt, x.cells.ok.0))) (λ k le lt. c.in_ok-resize.ensures.by_index.1 k free_cell refl (omega (arith, le, x.cells.ok.0)) lt) r.begun r.wide r.few in
    now.0

pub note_free-requires-clause-room : goal.note_free-requires-clause-room
note_free-requires-clause-room c =
    let x = c.args.self.now in let r = c.requires in
    let now = filled_now x.cells.items c.resize.new.self.items x.free.items x.spare r.sound c.args.wanted (omega (arith, c.in_ok-resize.ensures.len, c.resize.new.self.ok.0)) r.more
    (λ k lt. c.in_ok-resize.ensures.by_index.0 k free_cell (omega (arith, lt, r.more)) (omega (arith, lt, x.cells.ok.0))) (λ k le lt. c.in_ok-resize.ensures.by_index.1 k free_cell refl (omega (arith, le, x.cells.ok.0)) lt) r.begun r.wide r.few in
    omega (arith, ap maps.len now.1, r.sound.room, c.len-from.ensures, x.cells.ok.0)

pub returns-clause-kept : goal.returns-clause-kept
returns-clause-kept c =
    let x = c.args.self.now in let r = c.requires in
    let now = filled_now x.cells.items c.resize.new.self.items x.free.items x.spare r.sound c.args.wanted (omega (arith, c.in_ok-resize.ensures.len, c.resize.new.self.ok.0)) r.more
    (λ k lt. c.in_ok-resize.ensures.by_index.0 k free_cell (omega (arith, lt, r.more)) (omega (arith, lt, x.cells.ok.0))) (λ k le lt. c.in_ok-resize.ensures.by_index.1 k free_cell refl (omega (arith, le, x.cells.ok.0)) lt) r.begun r.wide r.few in
    c.note_free.ensures.kept ∙ now.1
