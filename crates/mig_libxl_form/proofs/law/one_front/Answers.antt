use Rattle.mig_libxl_form.proofs.Laws.{one_front}
use Rattle.mig_libxl_form.proofs.law.one_front.Goals as goal

pub returns : goal.returns
returns c = one_front
