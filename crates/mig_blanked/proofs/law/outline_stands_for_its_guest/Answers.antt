use Rattle.mig_blanked.proofs.Outlines.{stands_for}
use Rattle.mig_blanked.proofs.law.outline_stands_for_its_guest.Goals as goal

pub returns : goal.returns
returns c = stands_for
