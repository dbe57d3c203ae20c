use Rattle.mig_bytes_form.proofs.Verdicts.{never_both}
use Rattle.mig_bytes_form.proofs.laws.never_both.Goals as goal

pub returns : goal.returns
returns g c = never_both
