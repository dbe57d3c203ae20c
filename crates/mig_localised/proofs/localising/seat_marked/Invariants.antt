use Rattle.std.proofs.Common.{◌-◌, ◌^◌}
use Rattle.mig_localised.proofs.Seated.{SeatedBelow}
use Rattle.mig_localised.proofs.localising.seat_marked.Given as goal

abbrev pub invariant-loop-pfn : goal.invariant-loop-pfn
invariant-loop-pfn l = SeatedBelow l.fn.marks.values l.fn.outline l.from l.outline

abbrev pub decreases-loop-pfn : goal.decreases-loop-pfn
decreases-loop-pfn l = 2 ^ 52 - l.from
