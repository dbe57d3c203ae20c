use Rattle.mig_host.proofs.Common.{is_some, true, ◌≡◌, sym, ap, subst, ◌∙◌, arith, option_copied, is_type_of, FrameOf, HostOf, HostAndSpare, host_seen, retyped, raw_page_at}
use Rattle.mig_host.proofs.HostMaps.{page_joined}
use Rattle.mig_host.proofs.HostChanges.{low_pfn, there_is, retyped_is, fine_now, seen_changed, made_changed}
use Rattle.std.specs.FinMap as maps
use Rattle.mig_host.proofs.host.Host.retype.Goals as goal

pub put_spare-requires-clause-small : goal.put_spare-requires-clause-small
put_spare-requires-clause-small c =
    low_pfn _ c.args.pfn c.self.invariant.valid (subst (λ (x : HostAndSpare). is_some (maps.get x.host.frames c.args.pfn) ≡ true) (sym c.self.view_is) c.requires.there)

pub put_spare-requires-clause-room : goal.put_spare-requires-clause-room
put_spare-requires-clause-room c =
    let h = c.self.inside in λ none.
    let spare = ap (λ (x : HostAndSpare). x.spare) c.self.view_is in
    let room = c.requires.room (ap (λ (x : HostAndSpare). raw_page_at x.host.frames c.args.pfn) (sym c.self.view_is) ∙ sym (page_joined h.frames.frames h.machines.machines c.args.pfn) ∙ none) in
    omega (arith, spare, room)

pub invariant_of-self : goal.invariant_of-self
invariant_of-self c =
    let h = c.self.inside in let pfn = c.args.pfn in
    let seen : HostOf = host_seen h.kind h.width h.frames.frames h.machines.machines h.parts in
    let f : FrameOf = record { type = c.args.kind; page = option_copied c.args.page } in
    let (old, has) = there_is (maps.get seen.frames pfn) (subst (λ (x : HostAndSpare). is_some (maps.get x.host.frames pfn) ≡ true) (sym c.self.view_is) c.requires.there) in
    rw (c.put_spare.ensures.frames)
    (made_changed h.kind h.width h.frames.frames h.machines.machines h.parts c.self.invariant pfn f old has
    (fine_now seen pfn c.args.kind (option_copied c.args.page) old c.self.invariant.valid has (subst (λ (x : HostAndSpare). is_type_of x.host.kind c.args.kind ≡ true) (sym c.self.view_is) c.requires.allowed) c.requires.in_step c.requires.whole))

pub returns-clause-host : goal.returns-clause-host
returns-clause-host c =
    let h = c.self.inside in let pfn = c.args.pfn in
    let seen : HostOf = host_seen h.kind h.width h.frames.frames h.machines.machines h.parts in
    let f : FrameOf = record { type = c.args.kind; page = option_copied c.args.page } in
    let (old, has) = there_is (maps.get seen.frames pfn) (subst (λ (x : HostAndSpare). is_some (maps.get x.host.frames pfn) ≡ true) (sym c.self.view_is) c.requires.there) in
    rw (c.put_spare.ensures.frames)
    (seen_changed h.kind h.width h.frames.frames h.machines.machines h.parts c.self.invariant pfn f old has
    ∙ sym (retyped_is seen pfn c.args.kind (option_copied c.args.page) old has) ∙ ap (λ (x : HostAndSpare). retyped x.host pfn c.args.kind (option_copied c.args.page)) c.self.view_is)

pub returns-clause-in_place : goal.returns-clause-in_place
returns-clause-in_place c =
    let h = c.self.inside in λ some.
    let spare = ap (λ (x : HostAndSpare). x.spare) c.self.view_is in
    let stays = c.put_spare.ensures.in_place (subst (λ o. is_some o ≡ true) (ap (λ (x : HostAndSpare). raw_page_at x.host.frames c.args.pfn) (sym c.self.view_is) ∙ sym (page_joined h.frames.frames h.machines.machines c.args.pfn)) some) in
    omega (arith, spare, stays)
