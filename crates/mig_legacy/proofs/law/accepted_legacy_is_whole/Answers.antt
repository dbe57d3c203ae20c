use Rattle.mig_legacy.proofs.AcceptedWhole.{accepted_legacy_whole}
use Rattle.mig_legacy.proofs.law.accepted_legacy_is_whole.Goals as goal

pub returns : goal.returns
returns c = accepted_legacy_whole
