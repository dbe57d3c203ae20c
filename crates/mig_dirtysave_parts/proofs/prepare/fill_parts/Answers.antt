use Rattle.mig_dirtysave_parts.proofs.Common.{◌≡◌, sym, ap, subst, ◌∙◌, GuestOf, is_early, is_setting, parts_alone}
use Rattle.std.proofs.Common.{true, false}
use Rattle.std.specs.Prelude.{◌==◌, ◌&&◌, not}
use Rattle.mig_dirtysave_parts.proofs.Walks.{Copied, remaining_falls, bare_from, copied_none, copied_past, copied_all, copies_one}
use Rattle.std.specs.FinMap as maps
use Rattle.mig_dirtysave_parts.proofs.prepare.fill_parts.Goals as goal

pub loop-key-init : goal.loop-key-init
loop-key-init g c =
    let h = (g.M.Machine.state c.args.machine.now).host in
    record {
      early = bare_from h.kind h.width c.args.early.now maps.empty c.requires.early;
      settings = bare_from h.kind h.width c.args.settings.now maps.empty c.requires.settings;
      kept = subst (Copied is_early h.parts _) (sym (ap (λ (k : GuestOf). k.parts) c.requires.early)) (copied_none _ _);
      changing = subst (Copied is_setting h.parts _) (sym (ap (λ (k : GuestOf). k.parts) c.requires.settings)) (copied_none _ _);
    }

pub loop-key-smaller-in_ok-copy_part : goal.loop-key-smaller-in_ok-copy_part
loop-key-smaller-in_ok-copy_part g c = remaining_falls _ c.loop-key.after c.in-Some.key c.in-Some.ensures.above c.in-Some.ensures.there

pub loop-key-preserved-in_ok-copy_part : goal.loop-key-preserved-in_ok-copy_part
loop-key-preserved-in_ok-copy_part g c =
    let h = (g.M.Machine.state c.args.machine.now).host in
    let of : is_early c.in-Some.key.code ≡ true = sym c.is_early.ensures ∙ c.if-is_early.true in
    let both = copies_one _ c.loop-key.after c.in-Some.key c.in-Some.ensures h.kind h.width c.loop-key.early c.copy_part.new.guest c.loop-key.invariant.early c.in_ok-copy_part.ensures is_early of c.loop-key.invariant.kept in
    record {
      early = both.0;
      settings = c.loop-key.invariant.settings;
      kept = both.1;
      changing = copied_past is_setting _ c.loop-key.after c.in-Some.key c.in-Some.ensures c.loop-key.settings.parts c.loop-key.invariant.changing (ap (λ b. not b && not (c.in-Some.key.code == 9)) of);
    }

pub loop-key-smaller-in_ok-copy_part-2 : goal.loop-key-smaller-in_ok-copy_part-2
loop-key-smaller-in_ok-copy_part-2 g c = remaining_falls _ c.loop-key.after c.in-Some.key c.in-Some.ensures.above c.in-Some.ensures.there

pub loop-key-preserved-in_ok-copy_part-2 : goal.loop-key-preserved-in_ok-copy_part-2
loop-key-preserved-in_ok-copy_part-2 g c =
    let h = (g.M.Machine.state c.args.machine.now).host in
    let isnt : is_early c.in-Some.key.code ≡ false = sym c.is_early.ensures ∙ c.if-is_early.false in
    let of : is_setting c.in-Some.key.code ≡ true = sym c.is_setting.ensures ∙ c.if-is_setting.true in
    let both = copies_one _ c.loop-key.after c.in-Some.key c.in-Some.ensures h.kind h.width c.loop-key.settings c.copy_part-then-is_setting.new.guest c.loop-key.invariant.settings c.in_ok-copy_part-2.ensures is_setting of c.loop-key.invariant.changing in
    record {
      early = c.loop-key.invariant.early;
      settings = both.0;
      kept = copied_past is_early _ c.loop-key.after c.in-Some.key c.in-Some.ensures c.loop-key.early.parts c.loop-key.invariant.kept isnt;
      changing = both.1;
    }

pub loop-key-smaller : goal.loop-key-smaller
loop-key-smaller g c = remaining_falls _ c.loop-key.after c.in-Some.key c.in-Some.ensures.above c.in-Some.ensures.there

pub loop-key-preserved : goal.loop-key-preserved
loop-key-preserved g c =
    let isnt : is_early c.in-Some.key.code ≡ false = sym c.is_early.ensures ∙ c.if-is_early.false in
    let not_setting : is_setting c.in-Some.key.code ≡ false = sym c.is_setting.ensures ∙ c.if-is_setting.false in
    record {
      early = c.loop-key.invariant.early;
      settings = c.loop-key.invariant.settings;
      kept = copied_past is_early _ c.loop-key.after c.in-Some.key c.in-Some.ensures c.loop-key.early.parts c.loop-key.invariant.kept isnt;
      changing = copied_past is_setting _ c.loop-key.after c.in-Some.key c.in-Some.ensures c.loop-key.settings.parts c.loop-key.invariant.changing not_setting;
    }

pub returns-clause-early : goal.returns-clause-early
returns-clause-early g c =
    let h = (g.M.Machine.state c.args.machine.now).host in
    c.loop-key.invariant.early ∙ ap (parts_alone h.kind h.width) (copied_all _ _ c.loop-key.after c.loop-key.early.parts c.in_default.ensures c.loop-key.invariant.kept)

pub returns-clause-settings : goal.returns-clause-settings
returns-clause-settings g c =
    let h = (g.M.Machine.state c.args.machine.now).host in
    c.loop-key.invariant.settings ∙ ap (parts_alone h.kind h.width) (copied_all _ _ c.loop-key.after c.loop-key.settings.parts c.in_default.ensures c.loop-key.invariant.changing)
