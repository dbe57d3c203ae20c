use Rattle.std.proofs.Common.{arith}
use Rattle.mig_headers.proofs.LibxlHeaders.{decoded}
use Rattle.mig_headers.proofs.header.LibxlHeader.decode.Goals as goal

pub returns-clause-spelled : goal.returns-clause-spelled
returns-clause-spelled c = decoded c.args.rest.now c.read_fields.result (omega arith) c.read_fields.ensures
