use Rattle.mig_headers.proofs.LibxlHeaders.{libxl_is_spelled, libxl_is_read_back}
use Rattle.mig_headers.proofs.laws.libxl_header_laws.Goals as goal

pub returns-clause-spelled : goal.returns-clause-spelled
returns-clause-spelled c = libxl_is_spelled

pub returns-clause-read_back : goal.returns-clause-read_back
returns-clause-read_back c = libxl_is_read_back
