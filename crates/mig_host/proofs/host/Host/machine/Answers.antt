use Rattle.mig_host.proofs.Common.{◌≡◌, Some, IfSome, subst, HostAndSpare, pfn_in}
use Rattle.mig_host.proofs.HostLookups.{host_machine_back}
use Rattle.mig_host.proofs.host.Host.machine.Goals as goal

pub returns-clause-back : goal.returns-clause-back
returns-clause-back c =
    let h = c.self.inside in
    subst (λ (x : HostAndSpare). IfSome c.machine.result (λ machine. pfn_in x.host.frames machine ≡ Some c.args.pfn)) c.self.view_is
    (host_machine_back h.frames.frames h.machines.machines c.self.invariant.matched c.self.invariant.valid.one_to_one c.args.pfn c.machine.result c.machine.ensures.value)
