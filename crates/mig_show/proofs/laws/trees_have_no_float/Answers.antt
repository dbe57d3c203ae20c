use Rattle.mig_show.proofs.Floats.{no_float}
use Rattle.mig_show.proofs.laws.trees_have_no_float.Goals as goal

pub returns : goal.returns
returns c = no_float
