use Rattle.mig_restore_form.proofs.AcceptedWhole.{accepted_whole}
use Rattle.mig_restore_form.proofs.law.accepted_is_whole.Goals as goal

pub returns : goal.returns
returns c = accepted_whole
