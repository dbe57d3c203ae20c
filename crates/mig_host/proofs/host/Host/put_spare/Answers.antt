use Rattle.mig_host.proofs.Common.{◌<◌, length, sym, ap, subst, ◌∙◌, option_copied, FrameOf, IsHostFrame, HostAndSpare, with_machine, put_frame, most_frames}
use Rattle.mig_host.proofs.HostsMade.{machine_unused, seen_frame, made_frame}
use Rattle.std.specs.FinMap as maps
use Rattle.mig_host.proofs.host.Host.put_spare.Goals as goal

pub put_spare-requires-2-clause-unused : goal.put_spare-requires-2-clause-unused
put_spare-requires-2-clause-unused c =
    machine_unused c.self.inside.frames.frames c.self.inside.machines.machines c.self.invariant.matched c.args.machine
    (λ other x has. c.requires.unused other x (sym (ap (λ (h : HostAndSpare). maps.get h.host.frames other) c.self.view_is) ∙ has))

pub invariant_of-self : goal.invariant_of-self
invariant_of-self c =
    let h = c.self.inside in let pfn = c.args.pfn in
    let frame : FrameOf = record { type = c.args.kind; page = option_copied c.args.page } in
    rw (c.put_spare.ensures.frames, c.put_spare-2.ensures.machines)
    (made_frame h.kind h.width h.frames.frames h.machines.machines h.parts pfn frame c.args.machine c.self.invariant
    (subst (λ (x : HostAndSpare). IsHostFrame x.host.kind x.host.width pfn (with_machine frame c.args.machine)) (sym c.self.view_is) c.requires.is)
    (λ other x has. c.requires.unused other x (sym (ap (λ (h : HostAndSpare). maps.get h.host.frames other) c.self.view_is) ∙ has))
    (subst (λ (x : HostAndSpare). length (maps.entries x.host.frames) < most_frames) (sym c.self.view_is) c.requires.few))

pub returns-clause-host : goal.returns-clause-host
returns-clause-host c =
    let h = c.self.inside in let pfn = c.args.pfn in
    let frame : FrameOf = record { type = c.args.kind; page = option_copied c.args.page } in
    rw (c.put_spare.ensures.frames, c.put_spare-2.ensures.machines)
    (seen_frame h.kind h.width h.frames.frames h.machines.machines h.parts pfn frame c.args.machine
    ∙ ap (λ (x : HostAndSpare). put_frame x.host pfn (with_machine frame c.args.machine)) c.self.view_is)
