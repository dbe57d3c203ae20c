use Rattle.mig_relay.proofs.Streams.{unfinished_is_not_accepted as lemma}
use Rattle.mig_relay.proofs.passable_law.unfinished_is_not_accepted.Goals as goal

pub returns : goal.returns
returns c = lemma
