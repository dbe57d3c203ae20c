use Rattle.mig_relay.proofs.Streams.{accepted_passes as lemma}
use Rattle.mig_relay.proofs.passable_law.accepted_passes.Goals as goal

pub returns : goal.returns
returns c = lemma
