use Rattle.mig_image.proofs.ImageWords.{flags_say_zero, unsent_are_zero}
use Rattle.mig_image.proofs.law.zero_pages_are_left_out.Goals as goal

pub returns : goal.returns
returns c = record { flags = flags_say_zero; unsent = unsent_are_zero }
