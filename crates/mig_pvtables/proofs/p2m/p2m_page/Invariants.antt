use Rattle.mig_pvtables.proofs.Common.{unwrap_or}
use Rattle.std.specs.Prelude.{◌+◌, ◌*◌, ◌-◌, ◌^◌}
use Rattle.mig_pvtables.proofs.LongSteps.{ChangedBelow}
use Rattle.mig_pvtables.proofs.p2m.p2m_page.Given as goal

abbrev pub invariant-loop-slot : goal.invariant-loop-slot
invariant-loop-slot g l = ChangedBelow 512 (λ s w. unwrap_or (g.F.Frames.mfns l.frames (512 * l.k + s)) (2 ^ 64 - 1)) l.fn.page l.slot l.page
