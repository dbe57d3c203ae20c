use Rattle.mig_tool_report.proofs.Common.{ap, puts_same, text_of_walk_end}
use Rattle.mig_tool_report.proofs.outcome.put_walk_end.Goals as goal

pub returns-in-NotCanonical-clause-bytes : goal.returns-in-NotCanonical-clause-bytes
returns-in-NotCanonical-clause-bytes g c = puts_same _ _ _ _ c.put_all.result (ap text_of_walk_end c.in-NotCanonical.is) c.put_all.ensures.bytes

pub returns-in-NotTable-clause-bytes : goal.returns-in-NotTable-clause-bytes
returns-in-NotTable-clause-bytes g c = puts_same _ _ _ _ c.put_field-in-NotTable.result (ap text_of_walk_end c.in-NotTable.is) c.put_field-in-NotTable.ensures.bytes
