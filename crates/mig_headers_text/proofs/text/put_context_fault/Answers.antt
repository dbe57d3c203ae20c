use Rattle.mig_headers_text.proofs.text.put_context_fault.Goals as goal

pub returns-in-HeaderSize-clause-bytes : goal.returns-in-HeaderSize-clause-bytes
returns-in-HeaderSize-clause-bytes g c = rw c.in-HeaderSize.is c.put_fault.ensures.bytes

pub returns-in-ShortEntry-clause-bytes : goal.returns-in-ShortEntry-clause-bytes
returns-in-ShortEntry-clause-bytes g c = rw c.in-ShortEntry.is c.put_fault-in-ShortEntry.ensures.bytes
