use Rattle.mig_relay.proofs.Common.{◌≡◌, ◌≤◌, ◌+◌, ◌^◌, ◌∷◌, ◌++◌, Some, length, length-append, arith, refl, sym, [], ap, ◌∙◌, Record, before, type_in_word, type_in_guest, AtPages, entry_of_word, InImage, spot, answer_of, Refused, Relay, get_or_read}
use Rattle.mig_relay.proofs.Moves.{not_taken, not_allowed, not_written, went}
use Rattle.mig_relay.proofs.Kept.{this_number}
use Rattle.mig_relay.proofs.Paging.{IsKept, next_word, others, page_is, outer_stays, records_stay, turned, turning_keeps, same_page_fault, page_left}
use Rattle.mig_relay.proofs.state.Relay.pass_page.Goals as goal

pub returns-in-Err-clause-moved : goal.returns-in-Err-clause-moved
returns-in-Err-clause-moved g c outer o records coming stood around kept pages padding words =
    let buf = c.take_part.new.buf in
    let r : Relay = c.args.self.now in
    not_taken (page_is outer o records c.args.head r coming stood words) _ _ _ _ _ _ buf (omega (arith, c.take_part.auto.buf)) (omega (arith, c.take_part.auto.buf)) c.in-Err.stop _
    (c.answer.ensures ∙ ap (λ n. answer_of (Record n) c.in-Err.stop) (c.from.ensures ∙ this_number _ o records _ kept.seen)) refl c.in-Err.ensures.read c.in-Err.ensures.few refl

pub returns-in-Some-clause-moved : goal.returns-in-Some-clause-moved
returns-in-Some-clause-moved g c outer o records coming stood around kept pages padding words =
    let buf = c.take_part.new.buf in
    let r : Relay = c.args.self.now in
    not_allowed (page_is outer o records c.args.head r coming stood words) _ _ _ _ _ _ buf (omega (arith, c.take_part.auto.buf)) (omega (arith, c.take_part.auto.buf)) _ c.in-Some.cause _
    (ap (λ n. Refused (Record n) c.in-Some.cause) (c.from.ensures ∙ this_number _ o records _ kept.seen))
    (same_page_fault _ o.kind _ (before o records).top _ r.page (next_word r) _ buf _ kept.seen.kind kept.top refl
    (c.type_in_guest-kind.ensures ∙ ap (type_in_guest r.seen.kind) (c.type_in.ensures ∙ ap type_in_word (get_or_read r.words.items _ _ words.some c.index.ensures 0))) c.in-Some.ensures) refl c.in_default.ensures.read refl

pub returns-in-Err-put-clause-moved : goal.returns-in-Err-put-clause-moved
returns-in-Err-put-clause-moved g c outer o records coming stood around kept pages padding words =
    let buf = c.take_part.new.buf in
    let r : Relay = c.args.self.now in
    not_written (page_is outer o records c.args.head r coming stood words) _ _ _ _ _ _ buf (omega (arith, c.take_part.auto.buf)) (omega (arith, c.take_part.auto.buf)) _ c.in_default.ensures.read c.in-Err-put.ensures.bytes

pub returns-clause-moved : goal.returns-clause-moved
returns-clause-moved g c outer o records coming stood around kept pages padding words =
    let buf = c.take_part.new.buf in
    let r : Relay = c.args.self.now in
    let fine =
    same_page_fault _ o.kind _ (before o records).top _ r.page (next_word r) _ buf _ kept.seen.kind kept.top refl
    (c.type_in_guest-kind.ensures ∙ ap (type_in_guest r.seen.kind) (c.type_in.ensures ∙ ap type_in_word (get_or_read r.words.items _ _ words.some c.index.ensures 0))) c.in_default-page_fault.ensures in
    let put = c.in_default-put.ensures.kept in
    let held : Relay = c.put.new.self in
    let stays : IsKept r held = record { wrapper = ap (λ (x : Relay). x.wrapper) put; seen = ap (λ (x : Relay). x.seen) put; top = ap (λ (x : Relay). x.top) put } in
    let few : length held.words.items ≤ 2 ^ 24 = omega (arith, ap (λ (x : Relay). length x.words.items) put, words.few) in
    let behind = stood ++ entry_of_word (next_word r) (Some buf) ∷ [] in
    let e = c.turn_to.ensures in
    let many : length behind ≡ held.page + 1 = omega (arith, length-append stood (entry_of_word (next_word r) (Some buf) ∷ []), words.behind, ap (λ (x : Relay). x.page) put) in
    let t = turned held c.turn_to.new.self c.args.head e.within.1 e.page e.over outer o records (held.page + 1) behind many e.within.0 e.data e.none few (outer_stays _ held outer stays around) (records_stay _ held o records _ _ stays kept) pages padding in
    record {
      is =
          went (page_is outer o records c.args.head r coming stood words) _ _ _ _ _ _ buf (omega (arith, c.take_part.auto.buf)) (omega (arith, c.take_part.auto.buf)) _ t.next [] _ fine c.in_default.ensures.read
          c.in_default-put.ensures.bytes (λ more. ap (λ (x : Relay). spot (InImage outer (AtPages o records c.args.head (others x) behind)) more) (sym put) ∙ t.same more) t.keeps
          (turning_keeps held c.turn_to.new.self c.args.head e.within.1 e.page e.over (λ x. x.passed) (λ _. refl) (λ _. refl) ∙ ap (λ (x : Relay). x.passed) put)
          (refl, omega (arith, c.take_part.auto.buf))
          (λ _. turning_keeps held c.turn_to.new.self c.args.head e.within.1 e.page e.over (λ x. x.words.items) (λ _. refl) (λ _. refl) ∙ ap (λ (x : Relay). x.words.items) put)
          (t.follows (InImage outer (AtPages o records c.args.head coming stood)) buf refl refl (λ e. cc) tt (page_left r held coming stood (length buf) words (ap (λ (x : Relay). x.words.items) put) (ap (λ (x : Relay). x.page) put) (omega (arith, c.take_part.auto.buf))));
    }
