use Rattle.mig_show.proofs.OneTree.{one_tree}
use Rattle.mig_show.proofs.laws.one_tree_is_shown.Goals as goal

pub returns : goal.returns
returns c = one_tree
