use Rattle.mig_relay.proofs.Streams.{fronts_pass as lemma}
use Rattle.mig_relay.proofs.passable_law.fronts_pass.Goals as goal

pub returns : goal.returns
returns c = lemma
