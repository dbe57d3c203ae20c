use Rattle.mig_libxl.proofs.Images.{comparisons_told}
use Rattle.mig_libxl.proofs.image.ComparisonTakesImageFileSource.take_bare.Goals as goal

pub returns-clause-read : goal.returns-clause-read
returns-clause-read g c = comparisons_told _ _ _ c.compare_image_rest.ensures.read
