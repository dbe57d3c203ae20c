use Rattle.mig_machine_script.proofs.Common.{sym, ◌∙◌}
use Rattle.mig_machine_script.proofs.LinesApplied.{exchange_unused}
use Rattle.mig_machine_script.proofs.change.exchange.Goals as goal

pub exchange-requires-clause-unused : goal.exchange-requires-clause-unused
exchange-requires-clause-unused c = exchange_unused c.args.host.now.host c.args.pfn c.args.mfn (sym c.can_exchange.ensures ∙ c.if-not-can_exchange.false)
