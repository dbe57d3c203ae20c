use Rattle.mig_host_view.proofs.SoundGuests.{localised_seen}
use Rattle.mig_host_view.proofs.view_law.localised_guest_can_be_seen.Goals as goal

pub returns : goal.returns
returns c = localised_seen
