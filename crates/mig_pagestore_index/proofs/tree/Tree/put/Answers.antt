use Rattle.mig_pagestore_index.proofs.Common.{◌+◌, ◌-◌, ◌*◌, ◌/◌, ◌%◌, ◌<◌, List, ℕ, length, set, ap, ◌∙◌, arith, length-set, under, leaf, Tree}
use Rattle.mig_pagestore_index.proofs.Fans.{none_under, way_to, written}
use Rattle.mig_pagestore_index.proofs.tree.Tree.put.Goals as goal

pub leaf_for-node-requires-clause-room : goal.leaf_for-node-requires-clause-room
leaf_for-node-requires-clause-room c none = c.requires.room (none_under (leaf c.args.self.now) _ c.args.number none)

pub returns-clause-set : goal.returns-clause-set
returns-clause-set c =
    let mid = c.leaf_for-node.new.self in let e = c.leaf_for-node.ensures in let tree = e.sound.1 in
    let k = c.args.number in let v = c.args.value in let cells = mid.leaves.cells.items in
    let way : 0 < leaf mid (k / 512) = omega (arith, e.leaf.0, e.leaf.1) in
    let w = written (leaf mid) _ _ tree.fan tree.level k v way in
    let are = c.set.ensures.cells ∙ ap (λ (m : ℕ). set cells ((m - 1) * 512 + k % 512) v) e.leaf.1 in
    record {
      here = ap (λ (l : List ℕ). under (leaf mid) l k) are ∙ w.here;
      there = λ q ne. ap (λ (l : List ℕ). under (leaf mid) l q) are ∙ w.there q ne ∙ e.same q;
    }

pub returns-clause-kept : goal.returns-clause-kept
returns-clause-kept c old =
    let same = c.leaf_for-node.ensures.kept (way_to (leaf c.args.self.now) _ c.args.number old) in
    record {
      ways = ap (λ (t : Tree). t.directory) same;
      used = c.set.ensures.used ∙ ap (λ (t : Tree). t.leaves.used) same;
      there = ap length c.set.ensures.cells ∙ length-set _ _ _ ∙ ap (λ (t : Tree). length t.leaves.cells.items) same;
    }
