use Rattle.mig_restore_form.proofs.Listings as lemmas
use Rattle.mig_restore_form.proofs.law.last_listing_decides.Goals as goal

pub returns : goal.returns
returns c = lemmas.last_listing_is
