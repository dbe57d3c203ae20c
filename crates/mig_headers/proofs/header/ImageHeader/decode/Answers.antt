use Rattle.std.proofs.Common.{arith}
use Rattle.mig_headers.proofs.HeaderLaws.{image_decoded}
use Rattle.mig_headers.proofs.header.ImageHeader.decode.Goals as goal

pub returns-clause-spelled : goal.returns-clause-spelled
returns-clause-spelled c = image_decoded c.args.rest.now c.read_fields.result (omega arith) c.read_fields.ensures
