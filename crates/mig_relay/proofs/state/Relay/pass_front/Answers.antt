use Rattle.mig_relay.proofs.Common.{arith, refl, sym, subst, [], ap, ◌∙◌, Record, fault_of_count, ComesNext, AtFront, AtWords, InImage, spot, answer_of, Refused, Relay, count}
use Rattle.mig_relay.proofs.Moves.{not_taken, not_allowed, not_written, went}
use Rattle.mig_relay.proofs.Kept.{this_number}
use Rattle.mig_relay.proofs.Paging.{IsKept, front_is, in_count, outer_stays, records_stay}
use Rattle.mig_relay.specs.declared.state.Coming.TheVariants as comes
use Rattle.mig_relay.proofs.state.Relay.pass_front.Goals as goal

pub returns-in-Err-clause-moved : goal.returns-in-Err-clause-moved
returns-in-Err-clause-moved g c outer o records around kept pages =
    let buf = c.take_part.new.buf in
    not_taken (front_is outer o records c.args.head) _ _ _ _ _ _ buf (omega (arith, c.take_part.auto.buf)) (omega (arith, c.take_part.auto.buf)) c.in-Err.stop _
    (c.answer.ensures ∙ ap (λ n. answer_of (Record n) c.in-Err.stop) (c.from.ensures ∙ this_number _ o records _ kept.seen)) refl c.in-Err.ensures.read c.in-Err.ensures.few refl

pub returns-in-Some-clause-moved : goal.returns-in-Some-clause-moved
returns-in-Some-clause-moved g c outer o records around kept pages =
    let buf = c.take_part.new.buf in
    not_allowed (front_is outer o records c.args.head) _ _ _ _ _ _ buf (omega (arith, c.take_part.auto.buf)) (omega (arith, c.take_part.auto.buf)) _ c.in-Some.cause _
    (ap (λ n. Refused (Record n) c.in-Some.cause) (c.from.ensures ∙ this_number _ o records _ kept.seen)) (c.in-Some.ensures.fault ∙ ap (fault_of_count c.args.head.len) c.u32_le-count.ensures) refl c.in_default.ensures.read refl

pub returns-in-Err-put-clause-moved : goal.returns-in-Err-put-clause-moved
returns-in-Err-put-clause-moved g c outer o records around kept pages =
    let buf = c.take_part.new.buf in
    not_written (front_is outer o records c.args.head) _ _ _ _ _ _ buf (omega (arith, c.take_part.auto.buf)) (omega (arith, c.take_part.auto.buf)) _ c.in_default.ensures.read c.in-Err-put.ensures.bytes

pub returns-clause-moved : goal.returns-clause-moved
returns-clause-moved g c outer o records around kept pages =
    let buf = c.take_part.new.buf in
    let n = c.u32_le-count.result in
    let put = c.in_default-put.ensures.kept in
    let fine = c.in_default-count_fault.ensures.fault in
    let after : Relay = record c.put.new.self { coming = comes.Words c.args.head n } in
    let stays : IsKept c.args.self.now after = record { wrapper = ap (λ (r : Relay). r.wrapper) put; seen = ap (λ (r : Relay). r.seen) put; top = ap (λ (r : Relay). r.top) put } in
    record {
      is =
          went (front_is outer o records c.args.head) _ _ _ _ _ _ buf (omega (arith, c.take_part.auto.buf)) (omega (arith, c.take_part.auto.buf)) _ (InImage outer (AtWords o records c.args.head n)) [] _
          (fine ∙ ap (fault_of_count c.args.head.len) c.u32_le-count.ensures) c.in_default.ensures.read c.in_default-put.ensures.bytes (λ more. ap (λ m. spot (InImage outer (AtWords o records c.args.head m)) more) (sym c.u32_le-count.ensures))
          (outer_stays _ _ outer stays around, (refl, records_stay _ _ o records _ _ stays kept, pages, in_count c.args.head.len n fine, refl)) (ap (λ (r : Relay). r.passed) put) (refl, omega (arith, c.take_part.auto.buf)) (λ _. ap (λ (r : Relay). r.words.items) put)
          (subst (λ m. ComesNext (InImage outer (AtFront o records c.args.head)) [] buf (InImage outer (AtWords o records c.args.head m)) []) (sym c.u32_le-count.ensures) (count outer o records c.args.head buf (omega (arith, c.take_part.auto.buf)) (omega (arith, (in_count c.args.head.len n fine).1, c.u32_le-count.ensures))));
    }
