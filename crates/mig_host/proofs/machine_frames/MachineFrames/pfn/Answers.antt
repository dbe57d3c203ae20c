use Rattle.mig_host.proofs.Common.{◌≡◌, subst, MachinesAndSpare, pfn_of_machine_in}
use Rattle.mig_host.proofs.MachineMaps.{pfn_looked_up}
use Rattle.std.specs.FinMap as maps
use Rattle.mig_host.proofs.machine_frames.MachineFrames.pfn.Goals as goal

pub returns-clause-value : goal.returns-clause-value
returns-clause-value c =
    let f = c.self.inside in
    subst (λ (x : MachinesAndSpare). c.get.result ≡ pfn_of_machine_in x.machines c.args.machine) c.self.view_is
    (pfn_looked_up f.there.values (maps.get f.back.values) c.self.invariant.0 c.args.machine c.get.result c.get.ensures)
