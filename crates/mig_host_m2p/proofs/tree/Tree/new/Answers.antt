use Rattle.mig_host_m2p.proofs.Common.{rules}
use Rattle.mig_host_m2p.proofs.Standing.{new_standing, new_kept}
use Rattle.mig_host_m2p.proofs.tree.Tree.new.Goals as goal

pub returns : goal.returns
returns c = record { sound = new_standing c.new.result.items c.new.ensures.items c.new-2.result.items; empty = new_kept c.new.result.items c.new.ensures.items; spare = search rules }
