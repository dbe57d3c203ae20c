use Rattle.mig_libxl.proofs.Images.{placed_told}
use Rattle.mig_libxl.proofs.image.PlacedGuestTakesImageFileSource.take_bare.Goals as goal

pub returns-clause-read : goal.returns-clause-read
returns-clause-read g c = placed_told g.P.PageFile.bytes _ _ _ c.place_image_rest.ensures.read
