use Rattle.mig_walk.proofs.Commuting.{commutes}
use Rattle.mig_walk.proofs.law.translation_commutes.Goals as goal

pub returns : goal.returns
returns c = commutes
