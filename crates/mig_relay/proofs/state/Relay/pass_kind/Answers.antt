use Rattle.mig_relay.proofs.Common.{arith, refl, sym, ap, [], le32, fault_of_domain, kind_of_number, opening_of, AtHead, InImage, carry, spot, kind}
use Rattle.mig_headers.specs.declared.header.DomainHeader.{DomainHeader}
use Rattle.mig_relay.proofs.Openings.{no_records}
use Rattle.mig_relay.proofs.Kept.{outer_same}
use Rattle.mig_relay.proofs.Unrolls.{kind_is}
use Rattle.mig_relay.proofs.SpotParts.{lifted}
use Rattle.mig_relay.proofs.Moves.{not_taken, not_allowed, not_written, went, err_fault, ok_none}
use Rattle.mig_relay.proofs.state.Relay.pass_kind.Goals as goal

pub returns-in-Err-clause-moved : goal.returns-in-Err-clause-moved
returns-in-Err-clause-moved g c = λ outer kept. not_taken (lifted (carry outer) (kind_is c.args.version)) _ _ _ _ _ _ c.take_part.new.buf c.take_part.auto.buf (omega (arith, c.take_part.auto.buf)) c.in-Err.stop _ c.answer.ensures refl c.in-Err.ensures.read c.in-Err.ensures.few refl

pub returns-in-Err-decode-clause-moved : goal.returns-in-Err-decode-clause-moved
returns-in-Err-decode-clause-moved g c = λ outer kept. not_allowed (lifted (carry outer) (kind_is c.args.version)) _ _ _ _ _ _ c.take_part.new.buf c.take_part.auto.buf (omega (arith, c.take_part.auto.buf)) _ c.in-Err-decode.cause _ refl (err_fault (fault_of_domain c.take_part.new.buf) _ c.in-Err-decode.cause c.in-Err-decode.ensures.value) refl c.in_default.ensures.read refl

pub returns-in-Err-put-clause-moved : goal.returns-in-Err-put-clause-moved
returns-in-Err-put-clause-moved g c = λ outer kept. not_written (lifted (carry outer) (kind_is c.args.version)) _ _ _ _ _ _ c.take_part.new.buf c.take_part.auto.buf (omega (arith, c.take_part.auto.buf)) _ c.in_default.ensures.read c.in-Err-put.ensures.bytes

pub returns-in_default-put-clause-moved : goal.returns-in_default-put-clause-moved
returns-in_default-put-clause-moved g c = λ outer kept.
    let b = c.take_part.new.buf in
    let d = ok_none (fault_of_domain b) (record { kind = kind_of_number (le32 b 0); major = le32 b 8; minor = le32 b 12 }) c.in-Ok.header c.in-Ok.ensures.value in
    record {
      is =
          went (lifted (carry outer) (kind_is c.args.version)) _ _ _ _ _ _ c.take_part.new.buf c.take_part.auto.buf (omega (arith, c.take_part.auto.buf)) _ (InImage outer (AtHead (opening_of c.args.version c.in-Ok.header.kind) [])) [] _ d.0 c.in_default.ensures.read c.in_default-put.ensures.bytes
          (λ more. ap (λ (h : DomainHeader). spot (InImage outer (AtHead (opening_of c.args.version h.kind) [])) more) d.1)
          (outer_same _ _ outer (ap (λ r. r.wrapper) c.in_default-put.ensures.kept) kept, (refl, no_records _ c.args.version c.in-Ok.header.kind c.new-self.ensures.seen refl, refl)) (ap (λ r. r.passed) c.in_default-put.ensures.kept) (sym (ap (λ (h : DomainHeader). h.kind) d.1)) (λ e. cc) (kind outer c.args.version (opening_of c.args.version c.in-Ok.header.kind) b c.take_part.auto.buf);
    }
