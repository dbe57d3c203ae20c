use Rattle.mig_restore_form.proofs.Converse as lemmas
use Rattle.mig_restore_form.proofs.law.image_is_accepted.Goals as goal

pub returns : goal.returns
returns c = lemmas.image_is_accepted
