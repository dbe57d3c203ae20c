use Rattle.mig_dirtysave.proofs.Common.{ℕ, List, length, refl, sym, ap, subst, ◌∙◌, option_map, IsFormed, GuestOf, HoldsParts, is_early, is_setting, kept_formed, holds_kept}
use Rattle.mig_dirtysave_parts.proofs.Walks.{kept_same}
use Rattle.mig_dirtysave.proofs.Streams.{held_there}
use Rattle.mig_dirtysave.proofs.saver.Saver.prepare.Goals as goal

pub invariant_of-result : goal.invariant_of-result
invariant_of-result g c =
    let h = (g.M.Machine.state c.args.machine.now).host in
    let early = c.in_ok-early.ensures.early in
    let settings = c.in_ok-early.ensures.settings in
    let kind = sym (ap (λ (k : GuestOf). k.kind) early) in
    let width = sym (c.in_ok-room.ensures ∙ c.width.ensures.value) in (
      subst IsFormed (sym early) (kept_formed h c.width.ensures.valid.host is_early refl (λ _. refl)),
      held_there is_early _ _ _ _ _ kind width (subst (HoldsParts is_early h.kind h.width) (sym early) (holds_kept h is_early)),
      held_there is_setting _ _ _ _ _ kind width (subst (HoldsParts is_setting h.kind h.width) (sym settings) (holds_kept h is_setting)),
      λ pv. c.in_ok-marks.ensures (kind ∙ pv) ∙ width,
    )

pub returns : goal.returns
returns g c =
    let h = (g.M.Machine.state c.args.machine.now).host in
    record {
      kind = sym (ap (λ (k : GuestOf). k.kind) c.in_ok-early.ensures.early);
      width = sym (c.in_ok-room.ensures ∙ c.width.ensures.value);
      early = kept_same is_early h.kind h.width h.parts _ c.in_ok-early.ensures.early;
      settings = λ key of. ap (option_map (λ (bytes : List ℕ). length bytes)) (kept_same is_setting h.kind h.width h.parts _ c.in_ok-early.ensures.settings key of);
    }
