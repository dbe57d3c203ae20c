use Rattle.mig_headers.proofs.HeaderLaws.{domain_is_read_back}
use Rattle.mig_headers.proofs.laws.domain_header_laws.Goals as goal

pub returns-clause-read_back : goal.returns-clause-read_back
returns-clause-read_back c = domain_is_read_back
