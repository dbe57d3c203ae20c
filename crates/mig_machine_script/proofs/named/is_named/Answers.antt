use Rattle.mig_machine_script.proofs.Common.{sym, ◌∙◌}
use Rattle.mig_machine_script.proofs.NamedMachines.{hvm_unnamed}
use Rattle.mig_machine_script.proofs.named.is_named.Goals as goal

pub returns-in-Hvm : goal.returns-in-Hvm
returns-in-Hvm c = sym (hvm_unnamed c.args.host.now.host c.args.mfn c.width-width.ensures.valid (sym c.kind.ensures ∙ c.in-Hvm.is))
