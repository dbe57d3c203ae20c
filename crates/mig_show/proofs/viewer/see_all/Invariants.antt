use Rattle.mig_show.proofs.Common.{◌≡◌}
use Rattle.mig_show.proofs.Sights.{Looks}
use Rattle.mig_show.proofs.viewer.see_all.Given as goal

abbrev pub invariant-loop : goal.invariant-loop
invariant-loop g l = record {
  looks : Looks l.relay l.seen (g.S.Source.left l.fn.src) (g.S.Source.left l.src);
  reads : g.S.Source.faults l.src ≡ g.S.Source.faults l.fn.src;
}
