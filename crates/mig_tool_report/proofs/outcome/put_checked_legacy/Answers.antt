use Rattle.mig_tool_report.proofs.Common.{puts_then, puts_stop}
use Rattle.mig_tool_report.proofs.outcome.put_checked_legacy.Goals as goal

pub returns-in_err-put_field-clause-bytes : goal.returns-in_err-put_field-clause-bytes
returns-in_err-put_field-clause-bytes g c = puts_stop _ _ _ _ _ _ c.from_residual.result c.from_residual.ensures.1 c.in_err-put_field.ensures.bytes

pub returns-clause-bytes : goal.returns-clause-bytes
returns-clause-bytes g c = puts_then _ _ _ _ _ c.put_all.result c.in_ok-put_field.ensures.bytes c.put_all.ensures.bytes
