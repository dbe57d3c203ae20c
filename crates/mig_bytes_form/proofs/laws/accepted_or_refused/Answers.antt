use Rattle.mig_bytes_form.proofs.Verdicts.{accepted_or_refused}
use Rattle.mig_bytes_form.proofs.laws.accepted_or_refused.Goals as goal

pub returns : goal.returns
returns g c = accepted_or_refused
