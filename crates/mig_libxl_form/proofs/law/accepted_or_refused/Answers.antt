use Rattle.mig_libxl_form.proofs.Laws.{accepted_or_refused}
use Rattle.mig_libxl_form.proofs.law.accepted_or_refused.Goals as goal

pub returns : goal.returns
returns c = accepted_or_refused
