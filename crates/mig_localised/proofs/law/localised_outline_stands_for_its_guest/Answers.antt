use Rattle.mig_localised.proofs.Localised.{stands_for}
use Rattle.mig_localised.proofs.law.localised_outline_stands_for_its_guest.Goals as goal

pub returns : goal.returns
returns c = stands_for
