use Rattle.mig_dirtysave.proofs.PvRows.{unsoundness_stands}
use Rattle.mig_dirtysave.proofs.Looked.{unsound_then}
use Rattle.mig_dirtysave.proofs.closing.close.Goals as goal

pub returns-in-Hvm-clause-stands : goal.returns-in-Hvm-clause-stands
returns-in-Hvm-clause-stands g c =
    unsound_then c.close_hvm.result (λ u is of. unsoundness_stands (g.M.Machine.state c.args.machine.now).host u is) c.close_hvm.ensures.first
