use Rattle.mig_guest.proofs.Kept.{frames_keep}
use Rattle.mig_guest.proofs.law.setting_frames_keeps_formed.Goals as goal

pub returns : goal.returns
returns c = frames_keep
