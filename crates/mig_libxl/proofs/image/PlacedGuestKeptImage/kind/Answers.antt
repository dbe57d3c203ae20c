use Rattle.mig_libxl.proofs.Common.{◌∙◌}
use Rattle.mig_libxl.proofs.Images.{placed_kind}
use Rattle.mig_libxl.proofs.image.PlacedGuestKeptImage.kind.Goals as goal

pub returns-clause-same : goal.returns-clause-same
returns-clause-same g c = λ image is. c.kind.ensures ∙ placed_kind g.P.PageFile.bytes c.args.self.now image is
