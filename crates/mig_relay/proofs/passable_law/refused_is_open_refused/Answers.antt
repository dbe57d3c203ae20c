use Rattle.mig_relay.proofs.Streams.{refused_is_open_refused as lemma}
use Rattle.mig_relay.proofs.passable_law.refused_is_open_refused.Goals as goal

pub returns : goal.returns
returns c = lemma
