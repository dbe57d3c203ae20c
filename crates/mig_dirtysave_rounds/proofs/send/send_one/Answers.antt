use Rattle.mig_dirtysave_rounds.proofs.Steps.{on_err, behind_anyhow}
use Rattle.mig_dirtysave_rounds.proofs.send.send_one.Goals as goal

pub returns-in_err-found-clause-behind : goal.returns-in_err-found-clause-behind
returns-in_err-found-clause-behind g c = on_err c.from_residual.result (behind_anyhow _ _ c.requires.few)

pub returns-clause-notes : goal.returns-clause-notes
returns-clause-notes g c = c.note.ensures c.read_one.new.page
