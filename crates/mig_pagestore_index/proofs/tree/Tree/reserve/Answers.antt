use Rattle.mig_pagestore_index.proofs.Common.{◌/◌, ◌%◌, ap, ◌∙◌, lead, step}
use Rattle.mig_pagestore_index.proofs.Directories.{lead_same}
use Rattle.mig_pagestore_index.proofs.Fans.{same_step}
use Rattle.mig_pagestore_index.proofs.tree.Tree.reserve.Goals as goal

pub returns-clause-same : goal.returns-clause-same
returns-clause-same c q =
    let now = c.args.self.now in let new = c.reserve.new.self in let e = c.in_ok-reserve.ensures in
    same_step now.leaves.cells.items c.reserve-2.new.self.cells.items c.reserve-2.ensures.same (lead new.near.items new.root (q / 512)) (q % 512)
    ∙ ap (λ n. step now.leaves.cells.items n (q % 512)) (lead_same now.directory.near.items new.near.items now.directory.root new.root e.root e.same (q / 512))
