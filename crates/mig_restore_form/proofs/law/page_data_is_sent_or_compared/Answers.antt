use Rattle.mig_restore_form.proofs.VerifyLaws.{sent_or_compared}
use Rattle.mig_restore_form.proofs.law.page_data_is_sent_or_compared.Goals as goal

pub returns : goal.returns
returns c = sent_or_compared
