use Rattle.mig_guest.proofs.guest.Guest.frames.Goals as goal

pub returns-clause-sized : goal.returns-clause-sized
returns-clause-sized c = rw (← c.self.view_is) c.len.ensures.sized
