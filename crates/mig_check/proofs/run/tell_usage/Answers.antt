use Rattle.mig_tool_report.proofs.Reports.{reports}
use Rattle.mig_tool_report.specs.Report.{check_usage_line}
use Rattle.mig_check.proofs.run.tell_usage.Goals as goal

pub returns-clause-line : goal.returns-clause-line
returns-clause-line g c = reports check_usage_line _ _ _ _ c.put_all.result c.put_all.ensures.bytes c.put_all.ensures.cause
