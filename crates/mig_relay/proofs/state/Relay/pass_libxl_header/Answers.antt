use Rattle.mig_relay.proofs.Common.{arith, refl, ap, [], fault_of_libxl, AtLibxlHead, wrapper_header}
use Rattle.mig_relay.proofs.Kept.{wrapper_same}
use Rattle.mig_relay.proofs.SpotParts.{header_is}
use Rattle.mig_relay.proofs.Moves.{not_taken, not_allowed, not_written, went, err_fault, ok_none}
use Rattle.mig_relay.proofs.state.Relay.pass_libxl_header.Goals as goal

pub returns-in-Err-clause-moved : goal.returns-in-Err-clause-moved
returns-in-Err-clause-moved g c = not_taken header_is _ _ _ _ _ _ c.take_part.new.buf c.take_part.auto.buf (omega (arith, c.take_part.auto.buf)) c.in-Err.stop _ c.answer.ensures refl c.in-Err.ensures.read c.in-Err.ensures.few refl

pub returns-in-Err-decode-clause-moved : goal.returns-in-Err-decode-clause-moved
returns-in-Err-decode-clause-moved g c = not_allowed header_is _ _ _ _ _ _ c.take_part.new.buf c.take_part.auto.buf (omega (arith, c.take_part.auto.buf)) _ c.in-Err-decode.cause _ refl (err_fault (fault_of_libxl c.take_part.new.buf) _ c.in-Err-decode.cause c.in-Err-decode.ensures.value) refl c.in_default.ensures.read refl

pub returns-in-Err-put-clause-moved : goal.returns-in-Err-put-clause-moved
returns-in-Err-put-clause-moved g c = not_written header_is _ _ _ _ _ _ c.take_part.new.buf c.take_part.auto.buf (omega (arith, c.take_part.auto.buf)) _ c.in_default.ensures.read c.in-Err-put.ensures.bytes

pub returns-in_default-put-clause-moved : goal.returns-in_default-put-clause-moved
returns-in_default-put-clause-moved g c =
    record {
      is =
          went header_is _ _ _ _ _ _ c.take_part.new.buf c.take_part.auto.buf (omega (arith, c.take_part.auto.buf)) _ (AtLibxlHead []) [] _ (ok_none (fault_of_libxl c.take_part.new.buf) _ _ c.in-Ok.ensures.value).0 c.in_default.ensures.read c.in_default-put.ensures.bytes
          (λ more. refl) (refl, (wrapper_same _ _ [] (ap (λ r. r.wrapper) c.in_default-put.ensures.kept) (ap (λ r. r.seen) c.in_default-put.ensures.kept) c.requires, refl), refl) (ap (λ r. r.passed) c.in_default-put.ensures.kept) (refl, omega (arith, c.take_part.auto.buf)) (λ _. ap (λ r. r.words.items) c.in_default-put.ensures.kept) (wrapper_header c.take_part.new.buf c.take_part.auto.buf);
    }
