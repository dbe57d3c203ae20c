use Rattle.mig_image.proofs.ImageReads.{image_reads}
use Rattle.mig_image.proofs.law.image_is_judged.Goals as goal

pub returns : goal.returns
returns c = image_reads
