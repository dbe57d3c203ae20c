use Rattle.mig_refusals.proofs.ImageFileVerdicts.{either}
use Rattle.mig_refusals.proofs.image_file.image_file_accepted_or_refused.Goals as goal

pub returns : goal.returns
returns c = either
