use Rattle.mig_restore.proofs.Common.{◌≡◌, ◌≤◌, ℕ, take, Ok, AgreesWithJudging, with_places, entry_at, each}
use Rattle.mig_restore.proofs.Compared.{AreCounted}
use Rattle.mig_restore.proofs.check.check_entries.Given as goal

abbrev pub invariant-loop-place : goal.invariant-loop-place
invariant-loop-place g l = record {
  read : AgreesWithJudging {X = ℕ} (AreCounted g.F.KeepsFrames.compares g.F.KeepsFrames.notes g.F.KeepsFrames.kept l.keeper l.guest.frames l.guest.kind (g.S.Source.left l.fn.src) (g.S.Source.left l.src)) (g.S.Source.left l.fn.src) (g.S.Source.left l.src) (each (entry_at l.guest.kind l.guest.top) (take l.place (with_places 0 l.list))) (Ok l.differ);
  few : l.differ ≤ l.place;
  quiet : g.S.Source.faults l.src ≡ g.S.Source.faults l.fn.src;
}
