use Rattle.mig_image.proofs.ImageReads.{one_host}
use Rattle.mig_image.proofs.law.one_image.Goals as goal

pub returns : goal.returns
returns c = one_host
