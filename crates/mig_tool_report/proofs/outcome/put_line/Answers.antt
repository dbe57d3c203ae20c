use Rattle.mig_tool_report.proofs.Common.{ap, puts_same, line_of}
use Rattle.mig_tool_report.proofs.outcome.put_line.Goals as goal

pub returns-in-Usage-clause-bytes : goal.returns-in-Usage-clause-bytes
returns-in-Usage-clause-bytes g c = puts_same _ _ _ _ c.put_all-in-Usage.result (ap line_of c.in-Usage.is) c.put_all-in-Usage.ensures.bytes

pub returns-in-ReadFault-clause-bytes : goal.returns-in-ReadFault-clause-bytes
returns-in-ReadFault-clause-bytes g c = puts_same _ _ _ _ c.put_all-in-ReadFault.result (ap line_of c.in-ReadFault.is) c.put_all-in-ReadFault.ensures.bytes

pub returns-in-WriteFault-clause-bytes : goal.returns-in-WriteFault-clause-bytes
returns-in-WriteFault-clause-bytes g c = puts_same _ _ _ _ c.put_all-in-WriteFault.result (ap line_of c.in-WriteFault.is) c.put_all-in-WriteFault.ensures.bytes

pub returns-in-Memory-clause-bytes : goal.returns-in-Memory-clause-bytes
returns-in-Memory-clause-bytes g c = puts_same _ _ _ _ c.put_all-in-Memory.result (ap line_of c.in-Memory.is) c.put_all-in-Memory.ensures.bytes
