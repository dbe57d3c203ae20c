use Rattle.mig_machine_script.proofs.Common.{sym, ◌∙◌}
use Rattle.mig_machine_script.proofs.LinesApplied.{add_unused, add_few}
use Rattle.mig_machine_script.proofs.change.add.Goals as goal

pub add-requires-clause-unused : goal.add-requires-clause-unused
add-requires-clause-unused c = add_unused c.args.host.now.host c.args.pfn c.args.mfn (sym c.can_add.ensures ∙ c.if-not-can_add.false)

pub add-requires-clause-few : goal.add-requires-clause-few
add-requires-clause-few c = add_few c.args.host.now.host c.args.pfn c.args.mfn (sym c.can_add.ensures ∙ c.if-not-can_add.false)
