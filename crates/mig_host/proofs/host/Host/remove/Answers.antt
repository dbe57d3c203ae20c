use Rattle.mig_host.proofs.Common.{is_some, true, ◌≡◌, sym, ap, subst, ◌∙◌, HostAndSpare, without_frame}
use Rattle.mig_host.proofs.HostChanges.{low_pfn, seen_taken, made_taken}
use Rattle.std.specs.FinMap as maps
use Rattle.mig_host.proofs.host.Host.remove.Goals as goal

pub remove-requires : goal.remove-requires
remove-requires c =
    let h = c.self.inside in
    low_pfn _ c.args.pfn c.self.invariant.valid (subst (λ (x : HostAndSpare). is_some (maps.get x.host.frames c.args.pfn) ≡ true) (sym c.self.view_is) c.requires)

pub invariant_of-self : goal.invariant_of-self
invariant_of-self c =
    let h = c.self.inside in
    rw (c.remove.ensures.frames, c.remove-2.ensures.machines) (made_taken h.kind h.width h.frames.frames h.machines.machines h.parts c.self.invariant c.args.pfn)

pub returns-clause-host : goal.returns-clause-host
returns-clause-host c =
    let h = c.self.inside in
    rw (c.remove.ensures.frames, c.remove-2.ensures.machines)
    (seen_taken h.kind h.width h.frames.frames h.machines.machines h.parts c.self.invariant c.args.pfn ∙ ap (λ (x : HostAndSpare). without_frame x.host c.args.pfn) c.self.view_is)
