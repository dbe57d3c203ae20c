use Rattle.mig_pagestore.proofs.Common.{subst, Framed, IsSized}
use Rattle.mig_pagestore.proofs.Seen.{sized_seen}
use Rattle.mig_pagestore.proofs.frame_store.FrameStore.len.Goals as goal

pub returns-clause-sized : goal.returns-clause-sized
returns-clause-sized c = subst (λ (s : Framed). IsSized s.frames) c.self.view_is (sized_seen _ _ _ c.self.invariant.0 c.len.ensures.small)
