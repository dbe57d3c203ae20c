use Rattle.mig_headers.proofs.HeaderLaws.{image_is_spelled, image_is_read_back}
use Rattle.mig_headers.proofs.laws.image_header_laws.Goals as goal

pub returns-clause-spelled : goal.returns-clause-spelled
returns-clause-spelled c = image_is_spelled

pub returns-clause-read_back : goal.returns-clause-read_back
returns-clause-read_back c = image_is_read_back
