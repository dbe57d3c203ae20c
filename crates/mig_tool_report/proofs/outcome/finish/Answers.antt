use Rattle.mig_tool_report.proofs.Common.{ap, line_of}
use Rattle.mig_tool_report.proofs.Reports.{reports, nothing_fails}
use Rattle.mig_tool_report.proofs.outcome.finish.Goals as goal

pub returns-clause-line : goal.returns-clause-line
returns-clause-line g c = reports (line_of c.args.outcome) _ _ _ _ c.put_line.result c.put_line.ensures.bytes c.put_line.ensures.cause

pub returns-clause-quiet : goal.returns-clause-quiet
returns-clause-quiet g c = λ is. nothing_fails (line_of c.args.outcome) _ _ _ _ (reports (line_of c.args.outcome) _ _ _ _ c.put_line.result c.put_line.ensures.bytes c.put_line.ensures.cause) (ap line_of is)
