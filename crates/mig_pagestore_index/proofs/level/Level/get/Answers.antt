use Rattle.mig_pagestore_index.proofs.Common.{◌<◌, ◌+◌, ◌-◌, ◌*◌, length, sym, ◌∙◌, arith}
use Rattle.mig_pagestore_index.proofs.Fans.{step_none, step_some, item_is}
use Rattle.mig_pagestore_index.proofs.level.Level.get.Goals as goal

pub returns-then-node-eq0 : goal.returns-then-node-eq0
returns-then-node-eq0 c = sym (step_none c.args.self.now.cells.items c.args.node c.args.place c.if-node-eq0.true)

pub returns : goal.returns
returns c =
    let cells = c.args.self.now.cells.items in let node = c.args.node in let place = c.args.place in
    let some : 0 < node = omega (arith, c.if-node-eq0.false) in
    let within : (node - 1) * 512 + place < length cells = omega (arith, some, c.requires.node, c.requires.place, c.requires.sound.in_range) in
    sym (item_is cells ((node - 1) * 512 + place) _ _ within c.index.ensures) ∙ sym (step_some cells node place some)
