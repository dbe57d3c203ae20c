use Rattle.mig_libxl.proofs.Images.{comparison_whole}
use Rattle.mig_libxl.proofs.image.ComparisonKeptImage.finish.Goals as goal

pub returns-clause-stream : goal.returns-clause-stream
returns-clause-stream c = λ image records is found same. comparison_whole c.args.self c.args._emulators image records is found same
