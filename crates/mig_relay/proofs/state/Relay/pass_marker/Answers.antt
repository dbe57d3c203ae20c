use Rattle.mig_relay.proofs.Common.{arith, refl, ap, [], AtVersion, InImage, carry, marker}
use Rattle.mig_relay.proofs.Kept.{outer_same}
use Rattle.mig_relay.proofs.Unrolls.{marker_is}
use Rattle.mig_relay.proofs.SpotParts.{lifted}
use Rattle.mig_relay.proofs.Moves.{not_taken, not_allowed, not_written, went}
use Rattle.mig_relay.proofs.state.Relay.pass_marker.Goals as goal

pub returns-in-Err-clause-moved : goal.returns-in-Err-clause-moved
returns-in-Err-clause-moved g c = λ outer kept. not_taken (lifted (carry outer) marker_is) _ _ _ _ _ _ c.take_part.new.buf c.take_part.auto.buf (omega (arith, c.take_part.auto.buf)) c.in-Err.stop _ c.answer.ensures refl c.in-Err.ensures.read c.in-Err.ensures.few refl

pub returns-in-Some-clause-moved : goal.returns-in-Some-clause-moved
returns-in-Some-clause-moved g c = λ outer kept. not_allowed (lifted (carry outer) marker_is) _ _ _ _ _ _ c.take_part.new.buf c.take_part.auto.buf (omega (arith, c.take_part.auto.buf)) _ c.in-Some.cause _ refl c.in-Some.ensures.fault refl c.in_default.ensures.read refl

pub returns-in-Err-put-clause-moved : goal.returns-in-Err-put-clause-moved
returns-in-Err-put-clause-moved g c = λ outer kept. not_written (lifted (carry outer) marker_is) _ _ _ _ _ _ c.take_part.new.buf c.take_part.auto.buf (omega (arith, c.take_part.auto.buf)) _ c.in_default.ensures.read c.in-Err-put.ensures.bytes

pub returns-clause-moved : goal.returns-clause-moved
returns-clause-moved g c = λ outer kept. record {
  is =
      went (lifted (carry outer) marker_is) _ _ _ _ _ _ c.take_part.new.buf c.take_part.auto.buf (omega (arith, c.take_part.auto.buf)) _ (InImage outer AtVersion) [] _ c.in_default-marker_fault.ensures.fault c.in_default.ensures.read c.in_default-put.ensures.bytes (λ more. refl)
      (outer_same _ _ outer (ap (λ r. r.wrapper) c.in_default-put.ensures.kept) kept, (refl, refl)) (ap (λ r. r.passed) c.in_default-put.ensures.kept) refl (λ e. cc) (marker outer c.take_part.new.buf c.take_part.auto.buf);
}
