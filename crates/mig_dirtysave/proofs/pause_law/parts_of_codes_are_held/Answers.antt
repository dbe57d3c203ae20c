use Rattle.mig_dirtysave.proofs.HeldParts.{kept_are_held, kept_are_seen}
use Rattle.mig_dirtysave.proofs.pause_law.parts_of_codes_are_held.Goals as goal

pub returns-clause-held : goal.returns-clause-held
returns-clause-held c h g codes contexts kept = kept_are_held h g codes kept contexts

pub returns-clause-seen : goal.returns-clause-seen
returns-clause-seen c h g codes pv kept = kept_are_seen h g codes kept pv
