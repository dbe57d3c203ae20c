use Rattle.mig_headers.proofs.ContextTexts.{contexts_are_spelled}
use Rattle.mig_headers.proofs.laws.context_law.Goals as goal

pub returns : goal.returns
returns c = contexts_are_spelled
