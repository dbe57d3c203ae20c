use Rattle.mig_relay.proofs.Common.{arith, refl, sym, ap, subst, ◌∙◌, [], ◌∷◌, ◌++◌, option_or, Record, le32, head_in, RecordHead, before, fault_of_fields, types_of, fault_of_empty, AtBody, InImage, carry, spot, answer_of, Refused, Relay, IsSeen, RecordsSeen}
use Rattle.mig_relay.proofs.HeadParts.{whole_head_is, begun, IsJudged}
use Rattle.mig_relay.proofs.Kept.{number_is, outer_same}
use Rattle.mig_relay.proofs.Moves.{not_taken, not_allowed, not_written, went, err_fault, ok_none}
use Rattle.mig_relay.proofs.SpotParts.{lifted}
use Rattle.mig_relay.proofs.state.Relay.pass_head.Goals as goal

pub returns-in-Err-clause-moved : goal.returns-in-Err-clause-moved
returns-in-Err-clause-moved g c = λ outer o records kept k.
    not_taken (lifted (carry outer) (whole_head_is o records k.going)) _ _ _ _ _ _ c.take_part.new.buf c.take_part.auto.buf (omega (arith, c.take_part.auto.buf)) c.in-Err.stop _ (c.answer.ensures ∙ ap (λ n. answer_of (Record n) c.in-Err.stop) (c.from.ensures ∙ number_is _ o records k.seen)) refl
    c.in-Err.ensures.read c.in-Err.ensures.few refl

pub returns-in-Err-judge-clause-moved : goal.returns-in-Err-judge-clause-moved
returns-in-Err-judge-clause-moved g c = λ outer o records kept k.
    let b = c.take_part.new.buf in
    let stands = err_fault _ tt c.in-Err-judge.cause (c.in-Err-judge.ensures.judged (before o records) k.seen) ∙ ap (λ (h : RecordHead). fault_of_fields (before o records) h.kind h.len) c.decode-head.ensures.value in
    not_allowed (lifted (carry outer) (whole_head_is o records k.going)) _ _ _ _ _ _ b c.take_part.auto.buf (omega (arith, c.take_part.auto.buf)) _ c.in-Err-judge.cause _ (ap (λ n. Refused (Record n) c.in-Err-judge.cause) (c.from.ensures ∙ number_is _ o records k.seen))
    (ap (λ f. option_or f (fault_of_empty c.decode-head.result)) stands ∙ ap (λ (h : RecordHead). option_or (fault_of_fields (before o records) (le32 b 0) (le32 b 4)) (fault_of_empty h)) c.decode-head.ensures.value) refl c.in_default.ensures.read refl

pub returns-in-Some-clause-moved : goal.returns-in-Some-clause-moved
returns-in-Some-clause-moved g c = λ outer o records kept k.
    let b = c.take_part.new.buf in
    let fine = (ok_none _ tt tt (c.in_default-judge.ensures.judged (before o records) k.seen)).0 ∙ ap (λ (h : RecordHead). fault_of_fields (before o records) h.kind h.len) c.decode-head.ensures.value in
    not_allowed (lifted (carry outer) (whole_head_is o records k.going)) _ _ _ _ _ _ b c.take_part.auto.buf (omega (arith, c.take_part.auto.buf)) _ c.in-Some.cause _ (ap (λ n. Refused (Record n) c.in-Some.cause) (c.from.ensures ∙ number_is _ o records k.seen))
    (c.in-Some.ensures ∙ ap fault_of_empty c.decode-head.ensures.value ∙ ap (λ f. option_or f (fault_of_empty (head_in b))) fine) refl c.in_default.ensures.read refl

pub returns-in-Err-put-clause-moved : goal.returns-in-Err-put-clause-moved
returns-in-Err-put-clause-moved g c = λ outer o records kept k.
    not_written (lifted (carry outer) (whole_head_is o records k.going)) _ _ _ _ _ _ c.take_part.new.buf c.take_part.auto.buf (omega (arith, c.take_part.auto.buf)) _ c.in_default.ensures.read c.in-Err-put.ensures.bytes

pub returns-clause-moved : goal.returns-clause-moved
returns-clause-moved g c = λ outer o records kept k.
    let b = c.take_part.new.buf in
    let h = c.decode-head.result in
    let r = c.put.new.self in
    let e = c.begin.ensures in
    let same = c.in_default-put.ensures.kept in
    let fine = (ok_none _ tt tt (c.in_default-judge.ensures.judged (before o records) k.seen)).0 in
    let judged : IsJudged r o records h =
    record {
      seen = subst (λ (s : RecordsSeen). IsSeen s o (types_of records ++ h.kind ∷ [])) (sym (ap (λ (x : Relay). x.seen) same)) (c.in_default-judge.ensures.seen o (types_of records) k.seen);
      top = ap (λ (x : Relay). x.top) same ∙ k.top;
      going = k.going;
      fine = sym fine;
      allowed = c.in_default-judge.ensures.allowed;
      small = c.in_default-judge.ensures.len;
      empty = sym c.in_default-empty_fault.ensures;
    } in
    let n = begun r c.begin.new.self outer o records h e.begun judged (outer_same c.args.self.now r outer (ap (λ (x : Relay). x.wrapper) same) kept) in
    record {
      is =
          went (lifted (carry outer) (whole_head_is o records k.going)) _ _ _ _ _ _ b c.take_part.auto.buf (omega (arith, c.take_part.auto.buf)) _ n.next [] _
          (c.in_default-empty_fault.ensures ∙ ap fault_of_empty c.decode-head.ensures.value ∙ ap (λ f. option_or f (fault_of_empty (head_in b))) (fine ∙ ap (λ (x : RecordHead). fault_of_fields (before o records) x.kind x.len) c.decode-head.ensures.value))
          c.in_default.ensures.read c.in_default-put.ensures.bytes (λ more. ap (λ (x : RecordHead). spot (InImage outer (AtBody o records x)) more) (sym c.decode-head.ensures.value) ∙ n.same more) n.keeps (e.passed ∙ ap (λ (x : Relay). x.passed) same)
          (refl, c.decode-head.ensures.value, e.words) (λ e. cc) (n.follows b c.take_part.auto.buf (sym c.decode-head.ensures.value));
    }
