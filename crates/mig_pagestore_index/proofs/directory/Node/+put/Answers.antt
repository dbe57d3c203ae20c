use Rattle.mig_pagestore_index.proofs.Common.{arith, subst, IsSearched}
use Rattle.mig_pagestore_index.proofs.Directories.{fork_within}
use Rattle.mig_pagestore_index.proofs.directory.Node.+put.Goals as goal

pub part-requires-then-is_apart-clause-within : goal.part-requires-then-is_apart-clause-within
part-requires-then-is_apart-clause-within t c = fork_within _ _ _ _ _ (subst IsSearched c.in-Fork.is c.requires.sound).2

pub part-requires-then-is_apart-clause-ordered : goal.part-requires-then-is_apart-clause-ordered
part-requires-then-is_apart-clause-ordered t c = let f = (subst IsSearched c.in-Fork.is c.requires.sound).2.ordered in omega (arith, f)
