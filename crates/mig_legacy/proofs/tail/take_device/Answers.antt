use Rattle.mig_legacy.proofs.Common.{◌≡◌, ◌∷◌, length, Some, rules, refl, sym, ap, subst, ◌∙◌, AreBytes, context_kept, judged_as, device_form, put_device, weakened}
use Rattle.mig_legacy.proofs.Devices.{no_device, some_device, stops_so}
use Rattle.mig_legacy.proofs.tail.take_device.Goals as goal

pub returns-in-Err-Refused-clause-read : goal.returns-in-Err-Refused-clause-read
returns-in-Err-Refused-clause-read g c =
    let one : length c.take_part.new.buf ≡ 1 = search rules in
    no_device _ _ one _ _ _ c.in-Err-Refused.field-0 c.in-Err-Refused.field-0-0 tt (search rules) c.in-Err-Refused.ensures.read refl

pub returns-in_err-content-clause-read : goal.returns-in_err-content-clause-read
returns-in_err-content-clause-read g c =
    let buf = c.take_part.new.buf in
    let one : length buf ≡ 1 = search rules in
    some_device _ _ one buf _ _ _ _ c.from_residual.result refl c.in-Ok.ensures.read
    (stops_so _ _ (λ rest. judged_as device_form (_ ∷ rest)) _ _ c.in_err-content.field-0.0 c.from_residual.result (search rules) c.in_err-content.ensures.read)

pub returns-in-Ok-set_context-clause-read : goal.returns-in-Ok-set_context-clause-read
returns-in-Ok-set_context-clause-read g c =
    let e = c.args.emulators.now in
    let buf = c.take_part.new.buf in
    let one : length buf ≡ 1 = search rules in
    let same : c.deref-2.result.now ≡ c.in_ok-content.content.items = search rules in
    some_device _ _ one buf _ _ _ _ _ refl c.in-Ok.ensures.read
    (weakened _ _ _ _ (λ rest. judged_as device_form (_ ∷ rest)) c.in_ok-content.content tt
    (λ device is. c.in-Ok-set_context.ensures.ok ∙ ap (put_device e) (ap Some same ∙ sym is)) c.in_ok-content.ensures.read)

pub returns-in-Ok-set_context-clause-begun : goal.returns-in-Ok-set_context-clause-begun
returns-in-Ok-set_context-clause-begun g c =
    let content = c.deref-2.result.now in
    let alike : c.deref.result.now ≡ content = search rules in
    context_kept c.args.emulators.now c.set_context.new.self content 0 0 c.requires.begun (search rules) (search rules) c.in-Ok-set_context.ensures.ok (search rules) (subst AreBytes alike c.are_bytes.ensures)
