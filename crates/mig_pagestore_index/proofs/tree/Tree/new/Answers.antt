use Rattle.mig_pagestore_index.proofs.Fans.{none_in_empty}
use Rattle.mig_pagestore_index.proofs.tree.Tree.new.Goals as goal

pub returns-clause-empty : goal.returns-clause-empty
returns-clause-empty c = none_in_empty _ c.new.ensures.empty _
