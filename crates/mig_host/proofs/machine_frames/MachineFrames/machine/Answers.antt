use Rattle.mig_host.proofs.Common.{◌≡◌, Some, IfSome, subst, MachinesAndSpare, pfn_of_machine_in}
use Rattle.mig_host.proofs.MachineMaps.{machine_back}
use Rattle.std.specs.FinMap as maps
use Rattle.mig_host.proofs.machine_frames.MachineFrames.machine.Goals as goal

pub returns-clause-back : goal.returns-clause-back
returns-clause-back c =
    let f = c.self.inside in
    subst (λ (x : MachinesAndSpare). IfSome c.get.result (λ machine. pfn_of_machine_in x.machines machine ≡ Some c.args.pfn)) c.self.view_is
    (machine_back f.there.values (maps.get f.back.values) c.self.invariant.0 c.args.pfn c.get.result c.get.ensures.value)
