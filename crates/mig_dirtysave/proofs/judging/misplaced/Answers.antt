use Rattle.mig_dirtysave.proofs.Common.{◌∙◌, standing_seen}
use Rattle.mig_dirtysave.proofs.SeenRows.{row_of_list}
use Rattle.mig_dirtysave.proofs.judging.misplaced.Goals as goal

pub returns-in_err-index : goal.returns-in_err-index
returns-in_err-index g c = c.from_residual-in_err-index.ensures ∙ row_of_list (standing_seen (g.M.Machine.state c.args.machine.now).host c.args.types.now) c.in_ok-list.ensures c.sole_key.ensures c.in_err-index.ensures

pub returns : goal.returns
returns g c = row_of_list (standing_seen (g.M.Machine.state c.args.machine.now).host c.args.types.now) c.in_ok-list.ensures c.sole_key.ensures c.in_ok-index.ensures
