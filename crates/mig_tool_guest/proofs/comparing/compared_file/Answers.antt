use Rattle.mig_tool_guest.proofs.Common.{rules, stream_at, any_stop, IsStreamComparison, IsSummary}
use Rattle.mig_tool_guest.proofs.Summaries.{of_comparison}
use Rattle.mig_tool_guest.proofs.comparing.compared_file.Goals as goal

pub returns-in-Ok-clause-read : goal.returns-in-Ok-clause-read
returns-in-Ok-clause-read g c = of_comparison _ _ c.in-Ok.comparison _ (search rules) (search rules) (search rules) (search rules) (search rules) (search rules)

pub returns-in-Err-clause-read : goal.returns-in-Err-clause-read
returns-in-Err-clause-read g c = any_stop IsStreamComparison IsSummary _ _ stream_at _ (search rules)
