use Rattle.mig_relay.proofs.Asked.{image_asked as lemma}
use Rattle.mig_relay.proofs.passable_law.nothing_else_is_left_out.Goals as goal

pub returns : goal.returns
returns c = lemma
