use Rattle.mig_host.proofs.Common.{◌≡◌, ℕ, List, length, Some, option_map, sym, ap, subst, ◌∙◌, HostAndSpare, IsMade, host_seen, put_part_in}
use Rattle.mig_host.proofs.HostChanges.{fits_there, is_there, now_put, made_put}
use Rattle.std.specs.FinMap as maps
use Rattle.mig_host.proofs.host.Host.put_part.Goals as goal

pub write-requires-clause-range : goal.write-requires-clause-range
write-requires-clause-range c =
    fits_there c.self.inside.parts c.args.key c.args.bytes.now
    (subst (λ (x : HostAndSpare). option_map (λ (part : List ℕ). length part) (maps.get x.host.parts c.args.key) ≡ Some (length c.args.bytes.now)) (sym c.self.view_is) c.requires.there)

pub write-requires-clause-there : goal.write-requires-clause-there
write-requires-clause-there c =
    is_there c.self.inside.parts c.args.key c.args.bytes.now
    (subst (λ (x : HostAndSpare). option_map (λ (part : List ℕ). length part) (maps.get x.host.parts c.args.key) ≡ Some (length c.args.bytes.now)) (sym c.self.view_is) c.requires.there)

pub invariant_of-self : goal.invariant_of-self
invariant_of-self c =
    let h = c.self.inside in
    let there = subst (λ (x : HostAndSpare). option_map (λ (part : List ℕ). length part) (maps.get x.host.parts c.args.key) ≡ Some (length c.args.bytes.now)) (sym c.self.view_is) c.requires.there in
    subst (IsMade h.kind h.width h.frames.frames h.machines.machines) (sym (now_put h.parts c.args.key c.args.bytes.now there c.write.new.self c.write.ensures))
    (made_put h.parts c.args.key c.args.bytes.now there h.kind h.width h.frames.frames h.machines.machines c.self.invariant c.requires.free)

pub returns-clause-host : goal.returns-clause-host
returns-clause-host c =
    let h = c.self.inside in
    let there = subst (λ (x : HostAndSpare). option_map (λ (part : List ℕ). length part) (maps.get x.host.parts c.args.key) ≡ Some (length c.args.bytes.now)) (sym c.self.view_is) c.requires.there in
    ap (host_seen h.kind h.width h.frames.frames h.machines.machines) (now_put h.parts c.args.key c.args.bytes.now there c.write.new.self c.write.ensures)
    ∙ ap (λ (x : HostAndSpare). put_part_in x.host c.args.key c.args.bytes.now) c.self.view_is
