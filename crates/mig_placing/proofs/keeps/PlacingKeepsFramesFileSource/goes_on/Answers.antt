use Rattle.mig_placing.proofs.Places.{noted_on}
use Rattle.mig_placing.proofs.keeps.PlacingKeepsFramesFileSource.goes_on.Goals as goal

pub returns-clause-read_on : goal.returns-clause-read_on
returns-clause-read_on g c = λ keeper all front rest frames noted. noted_on (g.P.PageFile.bytes keeper.file.now) keeper.places all front rest frames noted
