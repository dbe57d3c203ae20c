use Rattle.mig_legacy.proofs.Common.{◌≡◌, ◌-◌, ◌∷◌, length, Some, None, rules, [], stopped, judged_as, first_named, signature_causes, length_form, most_body}
use Rattle.mig_legacy.proofs.Parts.{behind_length, counted_is}
use Rattle.mig_legacy.proofs.Devices.{signed, behind_signature}
use Rattle.mig_legacy.proofs.tail.take_record.Goals as goal

pub returns-in_err-len-clause-read : goal.returns-in_err-len-clause-read
returns-in_err-len-clause-read g c =
    let bytes = c.take_part.new.buf in
    let size : length bytes ≡ 20 = search rules in
    let fine : first_named (signature_causes (c.args.first ∷ bytes)) ≡ None = search rules in
    signed _ c.args.first _ bytes size _ _ _ c.from_residual-in_err-len.result c.in_ok-take_part.ensures.read fine
    (stopped _ _ _ _ (judged_as (length_form (most_body - 8))) behind_signature (behind_length (most_body - 8) (λ _. []) Some) c.in_err-len.field-0.0 c.from_residual-in_err-len.result (counted_is (most_body - 8) (λ _. []) Some) (search rules) c.in_err-len.ensures.read)
