use Rattle.mig_dirtysave.proofs.Common.{sym, subst, SaverOf, PreparedFor}
use Rattle.mig_dirtysave.proofs.saver.Saver.run.Goals as goal

pub save-requires-clause-made : goal.save-requires-clause-made
save-requires-clause-made g c = subst (λ (s : SaverOf). PreparedFor s (g.M.Machine.state c.args.machine.now).host) (sym c.self.view_is) c.requires.made
