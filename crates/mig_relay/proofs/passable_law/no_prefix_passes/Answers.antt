use Rattle.mig_relay.proofs.Streams.{no_prefix_passes as lemma}
use Rattle.mig_relay.proofs.passable_law.no_prefix_passes.Goals as goal

pub returns : goal.returns
returns c = lemma
