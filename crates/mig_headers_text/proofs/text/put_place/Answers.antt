use Rattle.mig_headers_text.proofs.text.put_place.Goals as goal

pub returns-in-ImageHeader-clause-bytes : goal.returns-in-ImageHeader-clause-bytes
returns-in-ImageHeader-clause-bytes g c = rw c.in-ImageHeader.is c.put_all.ensures.bytes

pub returns-in-DomainHeader-clause-bytes : goal.returns-in-DomainHeader-clause-bytes
returns-in-DomainHeader-clause-bytes g c = rw c.in-DomainHeader.is c.put_all-in-DomainHeader.ensures.bytes

pub returns-in-LibxlHeader-clause-bytes : goal.returns-in-LibxlHeader-clause-bytes
returns-in-LibxlHeader-clause-bytes g c = rw c.in-LibxlHeader.is c.put_all-in-LibxlHeader.ensures.bytes

pub returns-in-LibxlRecord-clause-bytes : goal.returns-in-LibxlRecord-clause-bytes
returns-in-LibxlRecord-clause-bytes g c = rw c.in-LibxlRecord.is c.put_numbered-in-LibxlRecord.ensures.bytes
