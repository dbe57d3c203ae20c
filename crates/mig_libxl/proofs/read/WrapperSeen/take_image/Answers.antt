use Rattle.mig_libxl.proofs.Common.{refl, rules}
use Rattle.mig_libxl.proofs.Taking.{image_read}
use Rattle.mig_libxl.proofs.read.WrapperSeen.take_image.Goals as goal

pub returns-in-Ok-clause-read : goal.returns-in-Ok-clause-read
returns-in-Ok-clause-read g c = image_read g.I.KeptImage.is_of c.args.self.now _ _ _ c.in-Ok.kept c.requires.first refl refl refl refl (search rules)
