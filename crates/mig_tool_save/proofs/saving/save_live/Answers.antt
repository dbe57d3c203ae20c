use Rattle.mig_tool_save.proofs.SaveOutcomes.{nothing_written}
use Rattle.mig_tool_save.proofs.saving.save_live.Goals as goal

pub returns-in_default-clause-no_stream : goal.returns-in_default-clause-no_stream
returns-in_default-clause-no_stream g c = nothing_written _
