use Rattle.mig_dirtysave.proofs.Libxl as lemmas
use Rattle.mig_dirtysave.proofs.unended_law.unended_has_no_stream.Goals as goal

pub returns : goal.returns
returns c = lemmas.unended_has_no_stream
