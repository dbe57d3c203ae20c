use Rattle.mig_guest.proofs.Kept.{empty_formed}
use Rattle.mig_guest.proofs.law.empty_guest_is_formed.Goals as goal

pub returns : goal.returns
returns c = empty_formed
