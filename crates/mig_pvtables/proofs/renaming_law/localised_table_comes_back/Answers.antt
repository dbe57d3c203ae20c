use Rattle.mig_pvtables.proofs.Renamed.{normalised_back}
use Rattle.mig_pvtables.proofs.renaming_law.localised_table_comes_back.Goals as goal

pub returns : goal.returns
returns c = normalised_back
