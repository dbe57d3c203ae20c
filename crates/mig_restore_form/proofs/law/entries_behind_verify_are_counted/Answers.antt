use Rattle.mig_restore_form.proofs.VerifyLaws as lemmas
use Rattle.mig_restore_form.proofs.law.entries_behind_verify_are_counted.Goals as goal

pub returns : goal.returns
returns c = lemmas.behind_are_counted
