use Rattle.mig_restore.proofs.Common.{◌≡◌, ◌≤◌, ◌-◌, ◌^◌, opening_of, IsBegun, IsWithinRecords}
use Rattle.mig_restore.proofs.Arrivals.{Arrived}
use Rattle.mig_restore.proofs.read.take_records.Given as goal

abbrev pub invariant-records : goal.invariant-records
invariant-records g l = record {
  arrived : Arrived g.F.KeepsFrames.compares g.F.KeepsFrames.kept g.F.KeepsFrames.notes l.fn.keeper (g.S.Source.left l.fn.src) (opening_of l.fn.version l.fn.kind) (g.S.Source.left l.src) l.seen l.guest l.differs l.keeper;
  kind : l.seen.kind ≡ l.guest.kind;
  begun : IsBegun l.guest;
  few : l.seen.records ≤ 2 ^ 28;
  counted : IsWithinRecords l.seen.records l.differs;
  quiet : g.S.Source.faults l.src ≡ g.S.Source.faults l.fn.src;
}

abbrev pub decreases-records : goal.decreases-records
decreases-records g l = 2 ^ 28 - l.seen.records
