use Rattle.mig_pvtables.proofs.BadSlots.{superpage_refused, unknown_refused, nothing_refused}
use Rattle.mig_pvtables.proofs.renaming_law.normalise_table_refuses_the_first.Goals as goal

pub returns : goal.returns
returns c = record { superpage = superpage_refused; no_frame = unknown_refused; nothing = nothing_refused }
