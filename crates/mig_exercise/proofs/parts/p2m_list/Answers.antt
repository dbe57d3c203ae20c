use Rattle.mig_guest.specs.Longs.{longs}
use Rattle.mig_exercise.proofs.PartsSet.{list_more}
use Rattle.mig_exercise.proofs.parts.p2m_list.Goals as goal

pub loop-k-init : goal.loop-k-init
unfolding longs
loop-k-init c = c.in-Ok.ensures.items

pub loop-k-preserved : goal.loop-k-preserved
loop-k-preserved c = list_more c.loop-k.k c.loop-k.list.items c.push_number.new.list.items c.loop-k.invariant c.in_ok-push_number.ensures
