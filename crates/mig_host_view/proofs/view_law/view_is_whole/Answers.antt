use Rattle.mig_host_view.proofs.ViewedGuests.{viewed_whole, viewed_blank}
use Rattle.mig_host_view.proofs.view_law.view_is_whole.Goals as goal

pub returns : goal.returns
returns c = record { whole = viewed_whole; form = viewed_blank }
