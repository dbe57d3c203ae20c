use Rattle.mig_tool_save.proofs.SaveOutcomes.{script_not_read}
use Rattle.mig_tool_save.proofs.saving.host_and_script.Goals as goal

pub returns-in-Err-clause-read : goal.returns-in-Err-clause-read
returns-in-Err-clause-read g c = script_not_read _ _ _ c.in_ok-host.host c.in-Err.answer c.script_stop.result c.in_ok-host.ensures.read c.in-Err.ensures.read c.script_stop.ensures
