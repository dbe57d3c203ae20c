use Rattle.mig_legacy.proofs.Common.{judged_as, refl, plain_read, Truncated, ◌≡◌, ◌<◌, length, drop, rules, sym, ap, ◌∙◌, arith, length-drop, All-drop, width_of, Value, param_key}
use Rattle.mig_legacy.proofs.Growth.{part_grows, param_part}
use Rattle.mig_legacy.proofs.Taking.{behind, part_set, value_set}
use Rattle.mig_legacy.proofs.body.take_value.Goals as goal

pub returns-in-Ok-clause-read : goal.returns-in-Ok-clause-read
unfolding judged_as
returns-in-Ok-clause-read g c = λ put.
    let len : length c.take_part.new.buf ≡ 12 = search rules in
    plain_read Truncated _ _ _ 12 len (λ bytes. Value c.args.index (drop 4 bytes)) tt _ _ tt c.in_ok-take_part.ensures.read
    (λ bytes is. value_set put c.args.guest.now _ c.args.index _ _ _ c.param_key.ensures (behind 4 12 c.take_part.new.buf len ∙ ap (drop 4) (sym is)) c.in-Ok.ensures.ok)

pub returns-in-Ok-clause-grown : goal.returns-in-Ok-clause-grown
returns-in-Ok-clause-grown g c =
    let buf = c.take_part.new.buf in
    let len : length buf ≡ 12 = search rules in
    let guest = c.args.guest.now in
    part_grows guest _ (param_key c.args.index) (drop 4 buf) refl refl refl (param_part guest.kind (width_of guest) c.args.index (drop 4 buf) c.requires.hvm c.requires.small (omega (arith, length-drop 4 buf, len)))
    (All-drop (λ b. b < 256) 4 buf (search rules))
    (part_set guest _ _ (param_key c.args.index) _ (drop 4 buf) c.param_key.ensures (behind 4 12 buf len) c.in-Ok.ensures.ok)
