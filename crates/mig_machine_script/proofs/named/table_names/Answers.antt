use Rattle.mig_machine_script.proofs.Common.{sym, ◌∙◌, arith}
use Rattle.mig_machine_script.proofs.NamedMachines.{slot_names, no_slot_names}
use Rattle.mig_machine_script.proofs.named.table_names.Goals as goal

pub returns-then-slot_names : goal.returns-then-slot_names
returns-then-slot_names c = sym (slot_names c.args.mfn c.args.level c.loop-slot.slot c.args.page.now c.loop-slot-test.true (sym c.slot_names.ensures ∙ c.if-slot_names.true))

pub returns : goal.returns
returns c = sym (no_slot_names c.args.mfn c.args.level c.args.page.now (λ k less. c.loop-slot.invariant k (omega (arith, less, c.loop-slot-test.false))))
