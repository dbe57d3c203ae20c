use Rattle.mig_libxl.proofs.AnyCanons.{twice_is_once}
use Rattle.mig_libxl.proofs.canon_law.twice_is_once.Goals as goal

pub returns : goal.returns
returns c = twice_is_once
