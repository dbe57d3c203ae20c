use Rattle.mig_libxl.proofs.Images.{kept_there, alone_there, stream_there}
use Rattle.mig_libxl.proofs.read.WrapperSeen.finish.Goals as goal

pub finish-requires-clause-kept : goal.finish-requires-clause-kept
finish-requires-clause-kept g c = kept_there g.I.KeptImage.is_of g.I.KeptImage.kept g.I.KeptImage.kind_of c.args.self c.in-Some.kept c.in-Some.is c.requires.begun

pub finish-requires-clause-alone : goal.finish-requires-clause-alone
finish-requires-clause-alone g c = alone_there g.I.KeptImage.is_of g.I.KeptImage.kept g.I.KeptImage.kind_of c.args.self c.in-Some.kept c.in-Some.is c.requires.begun c.requires.closed

pub returns-clause-read : goal.returns-clause-read
returns-clause-read g c = stream_there g.I.KeptImage.is_of g.I.KeptImage.kept g.I.KeptImage.kind_of c.args.self c.in-Some.kept c.in-Some.is g.I.KeptImage.is_of_stream c.finish.result c.finish.ensures.stream
