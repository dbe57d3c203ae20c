use Rattle.mig_restore_form.proofs.Converse as lemmas
use Rattle.mig_restore_form.proofs.law.one_front.Goals as goal

pub returns : goal.returns
returns c = lemmas.one_front
