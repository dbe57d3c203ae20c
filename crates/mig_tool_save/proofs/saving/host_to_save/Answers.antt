use Rattle.mig_tool_save.proofs.SaveOutcomes.{host_read}
use Rattle.mig_tool_save.proofs.saving.host_to_save.Goals as goal

pub returns-in-Ok-clause-read : goal.returns-in-Ok-clause-read
returns-in-Ok-clause-read g c = host_read _ _ c.in-Ok.host c.in-Ok.ensures.read
