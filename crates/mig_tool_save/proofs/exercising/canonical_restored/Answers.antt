use Rattle.mig_tool_save.proofs.Common.{◌≡◌, ap, subst, ◌∙◌, GuestOf, HostOf, unsoundness, view, canon_any, OnOk}
use Rattle.mig_host.specs.Hosted.{IsBaseOutside}
use Rattle.mig_tool_save.proofs.exercising.canonical_restored.Goals as goal

pub canonical_seen-requires : goal.canonical_seen-requires
canonical_seen-requires c =
    let inside : IsBaseOutside c.args.guest 1048576 → ⊥ = λ outside. let no = c.in-Ok.ensures.outside.1 outside in cc in
    ap (λ (h : HostOf). unsoundness h) c.in-Ok.ensures.hosted ∙ c.hosted_is_sound.ensures.faultless c.args.guest 1048576 c.requires.whole c.requires.blank inside

pub returns-in-Ok : goal.returns-in-Ok
returns-in-Ok c =
    let inside : IsBaseOutside c.args.guest 1048576 → ⊥ = λ outside. let no = c.in-Ok.ensures.outside.1 outside in cc in
    let seen : view c.in-Ok.host.host ≡ c.args.guest = ap (λ (h : HostOf). view h) c.in-Ok.ensures.hosted ∙ c.hosted_is_seen.ensures c.args.guest 1048576 c.requires.whole c.requires.blank inside in
    subst (λ (g : GuestOf). OnOk c.canonical_seen.result (c.canonical_seen.new.text.bytes.items ≡ canon_any g)) seen c.canonical_seen.ensures
