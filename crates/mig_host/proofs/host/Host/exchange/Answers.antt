use Rattle.mig_host.proofs.Common.{◌≡◌, is_some, true, sym, ap, subst, ◌∙◌, HostAndSpare, exchanged}
use Rattle.mig_host.proofs.HostsMade.{machine_unused}
use Rattle.mig_host.proofs.HostChanges.{now_exchanged, made_exchanged, some_machine}
use Rattle.std.specs.FinMap as maps
use Rattle.mig_host.proofs.host.Host.exchange.Goals as goal

pub replace-requires-clause-there : goal.replace-requires-clause-there
replace-requires-clause-there c =
    let h = c.self.inside in
    some_machine h.frames.frames h.machines.machines c.self.invariant.matched c.args.pfn (subst (λ (x : HostAndSpare). is_some (maps.get x.host.frames c.args.pfn) ≡ true) (sym c.self.view_is) c.requires.there)

pub replace-requires-clause-unused : goal.replace-requires-clause-unused
replace-requires-clause-unused c =
    let h = c.self.inside in
    machine_unused h.frames.frames h.machines.machines c.self.invariant.matched c.args.mfn
    (λ other x has. c.requires.unused other x (sym (ap (λ (h : HostAndSpare). maps.get h.host.frames other) c.self.view_is) ∙ has))

pub invariant_of-self : goal.invariant_of-self
invariant_of-self c =
    let h = c.self.inside in
    rw (c.replace.ensures.machines)
    (made_exchanged h.kind h.width h.frames.frames h.machines.machines h.parts c.self.invariant c.args.pfn c.args.mfn (subst (λ (x : HostAndSpare). is_some (maps.get x.host.frames c.args.pfn) ≡ true) (sym c.self.view_is) c.requires.there) c.requires.some c.requires.below
    (λ other x has. c.requires.unused other x (sym (ap (λ (h : HostAndSpare). maps.get h.host.frames other) c.self.view_is) ∙ has)))

pub returns-clause-host : goal.returns-clause-host
returns-clause-host c =
    let h = c.self.inside in
    rw (c.replace.ensures.machines)
    (now_exchanged h.kind h.width h.frames.frames h.machines.machines h.parts c.self.invariant c.args.pfn c.args.mfn (subst (λ (x : HostAndSpare). is_some (maps.get x.host.frames c.args.pfn) ≡ true) (sym c.self.view_is) c.requires.there)
    ∙ ap (λ (x : HostAndSpare). exchanged x.host c.args.pfn c.args.mfn) c.self.view_is)
