use Rattle.mig_host.proofs.Common.{◌+◌, sym, subst, MachineMap}
use Rattle.mig_host.proofs.HostedGuests.{some_value}
use Rattle.mig_host.proofs.RestoredHosts.{AreCounted, counted_none, counted_more, counted_unused}
use Rattle.std.specs.FinMap as maps
use Rattle.mig_host.proofs.restore.count_up.Goals as goal

pub loop-i-init : goal.loop-i-init
loop-i-init c = subst (λ (m : MachineMap). AreCounted c.args.guest.now.frames c.args.base 0 0 m) (sym c.in_ok-machines.ensures.machines) (counted_none c.args.guest.now.frames c.args.base)

pub loop-i-preserved : goal.loop-i-preserved
loop-i-preserved c =
    let frames = c.args.guest.now.frames in
    let (f, is) = some_value (maps.get frames c.in-Some.pfn) c.in-Some.ensures.there in
    subst (λ (m : MachineMap). AreCounted frames c.args.base (c.in-Some.pfn + 1) (c.loop-i.i + 1) m) (sym c.in_ok-insert.ensures.ok)
    (counted_more frames c.args.base c.loop-i.from c.loop-i.i c.loop-i.machines.machines c.loop-i.invariant c.in-Some.pfn f is c.in-Some.ensures.least.0 c.in-Some.ensures.least.1)

pub insert-requires-clause-unused : goal.insert-requires-clause-unused
insert-requires-clause-unused c = counted_unused c.args.guest.now.frames c.args.base c.loop-i.from c.loop-i.i c.loop-i.machines.machines c.loop-i.invariant
