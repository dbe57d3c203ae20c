use Rattle.mig_machine_script.proofs.Growing.{whole_is_too_long}
use Rattle.mig_machine_script.proofs.script.Script.read.Goals as goal

pub returns-in-Ok-Whole-clause-read : goal.returns-in-Ok-Whole-clause-read
returns-in-Ok-Whole-clause-read g c =
    whole_is_too_long (g.S.Source.left c.args.src.now) (g.S.Source.left c.take_vec.new.src) c.new-bytes.result.items c.take_vec.new.to.items c.in-Ok-Whole.field-0 c.in-Ok-Whole.field-0-is c.in-Ok-Whole.ensures.bytes
