use Rattle.mig_image.proofs.ImageBack.{image_back}
use Rattle.mig_image.proofs.law.judged_is_image.Goals as goal

pub returns : goal.returns
returns c = image_back
