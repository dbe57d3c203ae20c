use Rattle.mig_tool_report.proofs.Common.{ap, puts_same}
use Rattle.mig_tool_report.specs.Report.{unknown_text}
use Rattle.mig_tool_report.proofs.outcome.put_unknown.Goals as goal

pub returns-then-verified-clause-bytes : goal.returns-then-verified-clause-bytes
returns-then-verified-clause-bytes g c = puts_same _ _ _ _ c.put_all.result (ap unknown_text c.if-verified.true) c.put_all.ensures.bytes
