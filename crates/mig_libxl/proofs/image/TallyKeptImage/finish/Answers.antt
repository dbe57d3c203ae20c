use Rattle.mig_libxl.proofs.Images.{tally_whole}
use Rattle.mig_libxl.proofs.image.TallyKeptImage.finish.Goals as goal

pub returns-clause-stream : goal.returns-clause-stream
returns-clause-stream c = λ image records is found same. tally_whole c.args.self c.args._emulators image records is found same
