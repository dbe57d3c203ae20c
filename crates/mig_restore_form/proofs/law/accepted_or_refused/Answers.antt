use Rattle.mig_restore_form.proofs.Converse as lemmas
use Rattle.mig_restore_form.proofs.law.accepted_or_refused.Goals as goal

pub returns : goal.returns
returns c = lemmas.accepted_or_refused
