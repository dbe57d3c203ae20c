use Rattle.mig_pvtables.proofs.BlankWhole.{whole_blank}
use Rattle.mig_pvtables.proofs.law.blank_form_is_whole.Goals as goal

pub returns : goal.returns
returns c = whole_blank
