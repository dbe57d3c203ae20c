use Rattle.mig_relay.proofs.Common.{arith, refl, sym, ap, ◌∙◌, [], fault_of_libxl_head, RecordHead, answer_of, Refused, Relay, KeepsGoing}
use Rattle.mig_headers.specs.declared.fault.Place.TheVariants.{LibxlRecord as AtRecord}
use Rattle.mig_relay.proofs.LibxlHeads.{begun_libxl, are_behind}
use Rattle.mig_relay.proofs.Kept.{wrapper_same}
use Rattle.mig_relay.proofs.Moves.{not_taken, not_allowed, not_written, went}
use Rattle.mig_relay.proofs.SpotParts.{libxl_head_is, behind_libxl_head}
use Rattle.mig_relay.proofs.state.Relay.pass_libxl_head.Goals as goal

pub returns-in-Err-clause-moved : goal.returns-in-Err-clause-moved
returns-in-Err-clause-moved g c = λ records w.
    not_taken (libxl_head_is records w.1) _ _ _ _ _ _ c.take_part.new.buf c.take_part.auto.buf (omega (arith, c.take_part.auto.buf)) c.in-Err.stop _ (c.answer.ensures ∙ ap (λ n. answer_of (AtRecord n) c.in-Err.stop) (c.from.ensures ∙ (are_behind _ records w.0 c.in-Some.behind c.in-Some.is).count)) refl c.in-Err.ensures.read c.in-Err.ensures.few refl

pub returns-in-Some-libxl_head_fault-clause-moved : goal.returns-in-Some-libxl_head_fault-clause-moved
returns-in-Some-libxl_head_fault-clause-moved g c = λ records w.
    let are = are_behind _ records w.0 c.in-Some.behind c.in-Some.is in
    not_allowed (libxl_head_is records w.1) _ _ _ _ _ _ c.take_part.new.buf c.take_part.auto.buf (omega (arith, c.take_part.auto.buf)) _ c.in-Some-libxl_head_fault.cause _ (ap (λ n. Refused (AtRecord n) c.in-Some-libxl_head_fault.cause) (c.from.ensures ∙ are.count))
    (c.in-Some-libxl_head_fault.ensures.fault records are ∙ ap (λ (h : RecordHead). fault_of_libxl_head records h.kind h.len) c.decode-head.ensures.value) refl c.in_default-take_part.ensures.read refl

pub returns-in-Err-put-clause-moved : goal.returns-in-Err-put-clause-moved
returns-in-Err-put-clause-moved g c = λ records w. not_written (libxl_head_is records w.1) _ _ _ _ _ _ c.take_part.new.buf c.take_part.auto.buf (omega (arith, c.take_part.auto.buf)) _ c.in_default-take_part.ensures.read c.in-Err-put.ensures.bytes

pub returns-clause-moved : goal.returns-clause-moved
returns-clause-moved g c = λ records w.
    let h = c.decode-head.result in
    let r = c.put.new.self in
    let e = c.begin_libxl.ensures in
    let f = c.in_default-libxl_head_fault.ensures in
    let same = c.in_default-put.ensures.kept in
    let kept : KeepsGoing r records = (wrapper_same _ r records (ap (λ (x : Relay). x.wrapper) same) (ap (λ (x : Relay). x.seen) same) w.0, w.1) in
    let n = begun_libxl r c.begin_libxl.new.self records h kept c.in-Some.behind (ap (λ (x : Relay). x.wrapper) same ∙ c.in-Some.is) e.begun f.may in
    record {
      is =
          went (libxl_head_is records w.1) _ _ _ _ _ _ c.take_part.new.buf c.take_part.auto.buf (omega (arith, c.take_part.auto.buf)) _ n.next [] _ (f.fault records (are_behind _ records w.0 c.in-Some.behind c.in-Some.is) ∙ ap (λ (x : RecordHead). fault_of_libxl_head records x.kind x.len) c.decode-head.ensures.value)
          c.in_default-take_part.ensures.read c.in_default-put.ensures.bytes (λ more. ap (λ (x : RecordHead). behind_libxl_head records x more) (sym c.decode-head.ensures.value) ∙ n.same more) n.keeps (e.passed ∙ ap (λ (x : Relay). x.passed) same)
          (refl, c.decode-head.ensures.value, e.words) (λ e. cc) (n.follows c.take_part.new.buf c.take_part.auto.buf (sym c.decode-head.ensures.value));
    }
