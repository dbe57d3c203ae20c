use Rattle.mig_host.proofs.HostedGuests.{whole_sound, whole_faultless}
use Rattle.mig_host.proofs.law.hosted_is_sound.Goals as goal

pub returns : goal.returns
returns c = record { sound = whole_sound; faultless = whole_faultless }
