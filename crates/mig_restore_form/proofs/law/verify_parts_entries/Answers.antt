use Rattle.mig_restore_form.proofs.VerifyLaws as lemmas
use Rattle.mig_restore_form.proofs.law.verify_parts_entries.Goals as goal

pub returns : goal.returns
returns c = lemmas.parts_entries
