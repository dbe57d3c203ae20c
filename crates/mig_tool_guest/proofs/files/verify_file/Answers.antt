use Rattle.mig_tool_guest.proofs.Summaries.{of_source}
use Rattle.mig_tool_guest.proofs.files.verify_file.Goals as goal

pub returns : goal.returns
returns g c = of_source _ _ _ _ _ _ _ _ (c.tell_summary.ensures _ _ _ _ c.compared_file-said.ensures.read c.compared_file-said.ensures.faults)
