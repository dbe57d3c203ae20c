use Rattle.mig_legacy.proofs.Common.{◌≡◌, ◌≤◌, ◌-◌, IsLegacyBegun, most_chunks}
use Rattle.mig_legacy.proofs.Arrivals.{Arrived}
use Rattle.mig_legacy.proofs.read.take_chunks.Given as goal

abbrev pub invariant-chunks : goal.invariant-chunks
invariant-chunks g l = record {
  arrived : Arrived g.F.KeepsFrames.kept g.F.KeepsFrames.notes l.fn.keeper (g.S.Source.left l.fn.src) (g.S.Source.left l.src) l.seen l.keeper;
  begun : IsLegacyBegun l.seen;
  few : l.seen.chunks ≤ most_chunks;
  quiet : g.S.Source.faults l.src ≡ g.S.Source.faults l.fn.src;
}

abbrev pub decreases-chunks : goal.decreases-chunks
decreases-chunks g l = most_chunks - l.seen.chunks
