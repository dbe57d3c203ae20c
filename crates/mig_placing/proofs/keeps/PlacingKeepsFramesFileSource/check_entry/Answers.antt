use Rattle.mig_restore.proofs.Noted.{weaker}
use Rattle.mig_placing.proofs.keeps.PlacingKeepsFramesFileSource.check_entry.Goals as goal

pub returns-clause-read : goal.returns-clause-read
returns-clause-read g c = weaker _ _ (λ _ _ _ is. absurd (cc)) _ _ _ _ c.check_entry.ensures.read
