use Rattle.mig_host.proofs.Common.{◌≡◌, Some, IfSome, subst, option_map, HostFrame, HostAndSpare, pfn_in}
use Rattle.mig_host.proofs.HostLookups.{host_pfn_found, machine_there}
use Rattle.std.specs.FinMap as maps
use Rattle.mig_host.proofs.host.Host.pfn.Goals as goal

pub returns-clause-value : goal.returns-clause-value
returns-clause-value c =
    let h = c.self.inside in
    subst (λ (x : HostAndSpare). c.pfn.result ≡ pfn_in x.host.frames c.args.machine) c.self.view_is
    (host_pfn_found h.frames.frames h.machines.machines c.self.invariant.matched c.self.invariant.valid.one_to_one c.args.machine c.pfn.result c.pfn.ensures.some c.pfn.ensures.none)

pub returns-clause-back : goal.returns-clause-back
returns-clause-back c =
    let h = c.self.inside in
    subst (λ (x : HostAndSpare). IfSome c.pfn.result (λ pfn. option_map (λ (f : HostFrame). f.machine) (maps.get x.host.frames pfn) ≡ Some c.args.machine)) c.self.view_is
    (machine_there h.frames.frames h.machines.machines c.self.invariant.matched c.args.machine c.pfn.result c.pfn.ensures.some)
