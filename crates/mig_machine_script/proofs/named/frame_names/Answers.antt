use Rattle.mig_machine_script.proofs.Common.{ap, sym, ◌∙◌, option_copied, level_of}
use Rattle.mig_machine_script.proofs.NamedMachines.{no_table_names, no_page_names}
use Rattle.mig_machine_script.proofs.named.frame_names.Goals as goal

pub returns-in_default : goal.returns-in_default
returns-in_default c = sym (no_table_names c.args.mfn (option_copied c.args.page) (level_of c.args.kind) (sym c.table_level.ensures ∙ c.in_default.is))

pub returns-in-None : goal.returns-in-None
returns-in-None c = sym (no_page_names c.args.mfn (level_of c.args.kind) (option_copied c.args.page) (ap option_copied c.in-None.is))
