use Rattle.mig_bytes_form.proofs.Verdicts.{passes_spelled}
use Rattle.mig_bytes_form.proofs.laws.passes_spelled.Goals as goal

pub returns : goal.returns
returns g c = passes_spelled
