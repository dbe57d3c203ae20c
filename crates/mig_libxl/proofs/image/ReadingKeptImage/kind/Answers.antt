use Rattle.mig_libxl.proofs.Common.{◌∙◌}
use Rattle.mig_libxl.proofs.Images.{reading_kind}
use Rattle.mig_libxl.proofs.image.ReadingKeptImage.kind.Goals as goal

pub returns-clause-same : goal.returns-clause-same
returns-clause-same c = λ image is. c.kind.ensures ∙ reading_kind c.args.self.now image is
