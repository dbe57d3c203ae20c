use Rattle.mig_libxl.proofs.Common.{◌≡◌, ◌≤◌, ◌-◌, IsLibxlBegun, most_records}
use Rattle.mig_libxl.proofs.Arrivals.{Arrived}
use Rattle.mig_libxl.proofs.read.take_records.Given as goal

abbrev pub invariant-loop-seen : goal.invariant-loop-seen
invariant-loop-seen g l = record {
  arrived : Arrived g.I.KeptImage.is_of (g.S.Source.left l.fn.src) (g.S.Source.left l.src) l.seen;
  begun : IsLibxlBegun g.I.KeptImage.kept l.seen;
  few : l.seen.records ≤ most_records;
  quiet : g.S.Source.faults l.src ≡ g.S.Source.faults l.fn.src;
}

abbrev pub decreases-loop-seen : goal.decreases-loop-seen
decreases-loop-seen g l = most_records - l.seen.records
