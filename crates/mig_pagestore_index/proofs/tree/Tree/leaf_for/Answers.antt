use Rattle.mig_pagestore_index.proofs.Common.{◌≡◌, arith, leaf, lead}
use Rattle.mig_pagestore_index.proofs.Fans.{leaf_same}
use Rattle.mig_pagestore_index.proofs.tree.Tree.leaf_for.Goals as goal

pub returns-clause-same : goal.returns-clause-same
returns-clause-same c q =
    let none : leaf c.args.self.now c.args.key ≡ 0 = omega (arith, c.get-there.ensures, c.if-there-gt0.false) in
    rw c.open-node.ensures.cells (leaf_same _ _ _ c.requires.sound.1 (lead c.put.new.self.near.items c.put.new.self.root) c.args.key none (rw c.open-node.ensures.node at c.put.ensures.put) q)
