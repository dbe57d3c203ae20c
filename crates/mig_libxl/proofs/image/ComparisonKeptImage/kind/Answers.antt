use Rattle.mig_libxl.proofs.image.ComparisonKeptImage.kind.Goals as goal

pub returns-clause-same : goal.returns-clause-same
returns-clause-same c = λ image is. is.tally.kind
