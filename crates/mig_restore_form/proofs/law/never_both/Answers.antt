use Rattle.mig_restore_form.proofs.Converse as lemmas
use Rattle.mig_restore_form.proofs.law.never_both.Goals as goal

pub returns : goal.returns
returns c = lemmas.never_both
