use Rattle.mig_guest.proofs.Common.{◌+◌, ◌*◌, ◌≤◌, ◌<◌}
use Rattle.mig_guest.proofs.Scans.{NoneBetween}
use Rattle.mig_guest.proofs.pfn_set.scan.next_from.Given as goal

abbrev pub invariant-loop-index : goal.invariant-loop-index
invariant-loop-index l = record {
  low : l.low < 64;
  from : l.pfn ≤ 64 * l.index + l.low;
  none : NoneBetween l.words l.pfn (64 * l.index + l.low);
}
