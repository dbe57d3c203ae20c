use Rattle.mig_libxl_form.proofs.Laws.{never_both}
use Rattle.mig_libxl_form.proofs.law.never_both.Goals as goal

pub returns : goal.returns
returns c = never_both
