use Rattle.mig_relay.proofs.StreamsKept.{left_out_is_not_told as lemma}
use Rattle.mig_relay.proofs.passable_law.left_out_is_not_told.Goals as goal

pub returns : goal.returns
returns c = lemma
