use Rattle.mig_libxl.proofs.Images.{tallies_told}
use Rattle.mig_libxl.proofs.image.TallyTakesImage.take_bare.Goals as goal

pub returns-clause-read : goal.returns-clause-read
returns-clause-read g c = tallies_told _ _ _ c.judge_image_rest.ensures.read
