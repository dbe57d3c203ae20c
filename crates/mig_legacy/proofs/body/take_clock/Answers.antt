use Rattle.mig_legacy.proofs.Common.{judged_as, refl, plain_read, Truncated, ◌≡◌, length, rules, ap, sym, subst, ◌∙◌, AreBytes, width_of, clock_of, tsc_key, Clock}
use Rattle.mig_legacy.proofs.Growth.{part_grows, tsc_part}
use Rattle.mig_legacy.proofs.Taking.{clock_set, clock_len}
use Rattle.mig_legacy.proofs.body.take_clock.Goals as goal

pub returns-in-Ok-set_part-clause-read : goal.returns-in-Ok-set_part-clause-read
unfolding judged_as
returns-in-Ok-set_part-clause-read g c = λ put.
    let buf = c.take_part.new.buf in
    let same : c.deref-2.result.now ≡ clock_of buf = search rules in
    plain_read Truncated _ _ _ 20 (search rules) (λ bytes. Clock (clock_of bytes)) tt _ _ tt c.in_ok-take_part.ensures.read
    (λ bytes is. clock_set put c.args.guest.now _ _ _ (same ∙ ap clock_of (sym is)) c.in-Ok-set_part.ensures.ok)

pub returns-in-Ok-set_part-clause-grown : goal.returns-in-Ok-set_part-clause-grown
returns-in-Ok-set_part-clause-grown g c =
    let buf = c.take_part.new.buf in
    let clock = c.deref-2.result.now in
    let len : length buf ≡ 20 = search rules in
    let same : clock ≡ clock_of buf = search rules in
    let alike : c.deref.result.now ≡ clock = search rules in
    let guest = c.args.guest.now in
    part_grows guest _ tsc_key clock refl refl refl (tsc_part guest.kind (width_of guest) clock c.requires.hvm (ap length same ∙ clock_len buf len)) (subst AreBytes alike c.are_bytes.ensures) c.in-Ok-set_part.ensures.ok
