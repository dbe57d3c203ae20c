use Rattle.mig_dirtysave_parts.proofs.Common.{◌≡◌, sym, ap, ◌∙◌, is_setting, parts_alone}
use Rattle.std.proofs.Common.{true}
use Rattle.mig_dirtysave_parts.proofs.Walks.{remaining_falls, refreshed_past, refreshed_all, refreshes_one}
use Rattle.mig_dirtysave_parts.proofs.settings.refresh.Goals as goal

pub loop-key-smaller-then-is_setting : goal.loop-key-smaller-then-is_setting
loop-key-smaller-then-is_setting g c = remaining_falls _ c.loop-key.after c.in-Some.key c.in-Some.ensures.above c.in-Some.ensures.there

pub loop-key-preserved-then-is_setting : goal.loop-key-preserved-then-is_setting
loop-key-preserved-then-is_setting g c =
    let h = (g.M.Machine.state c.args.machine.now).host in
    let of : is_setting c.in-Some.key.code ≡ true = sym c.is_setting.ensures ∙ c.if-is_setting.true in
    let both = refreshes_one _ c.loop-key.after c.in-Some.key c.in-Some.ensures h.kind h.width c.loop-key.settings c.refresh_part.new.settings c.loop-key.invariant.bare c.refresh_part.ensures of c.loop-key.invariant.refreshed in
    record { bare = both.0; refreshed = both.1 }

pub loop-key-smaller : goal.loop-key-smaller
loop-key-smaller g c = remaining_falls _ c.loop-key.after c.in-Some.key c.in-Some.ensures.above c.in-Some.ensures.there

pub loop-key-preserved : goal.loop-key-preserved
loop-key-preserved g c = record {
  bare = c.loop-key.invariant.bare;
  refreshed = refreshed_past _ c.loop-key.after c.in-Some.key c.in-Some.ensures c.loop-key.settings.parts c.loop-key.invariant.refreshed
      (sym c.is_setting.ensures ∙ c.if-is_setting.false);
}

pub returns : goal.returns
returns g c =
    let h = (g.M.Machine.state c.args.machine.now).host in
    c.loop-key.invariant.bare ∙ ap (parts_alone h.kind h.width) (refreshed_all _ c.loop-key.after c.loop-key.settings.parts c.in_default.ensures c.loop-key.invariant.refreshed)
