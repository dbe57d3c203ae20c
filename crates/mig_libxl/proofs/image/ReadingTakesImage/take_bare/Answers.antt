use Rattle.mig_libxl.proofs.Images.{readings_told, bare_streamed}
use Rattle.mig_libxl.proofs.image.ReadingTakesImage.take_bare.Goals as goal

pub returns-clause-read : goal.returns-clause-read
returns-clause-read g c = readings_told _ _ _ c.read_image_rest.ensures.read

pub returns-clause-finished : goal.returns-clause-finished
returns-clause-finished g c = bare_streamed c.read_image_rest.result c.read_image_rest.ensures.streamed
