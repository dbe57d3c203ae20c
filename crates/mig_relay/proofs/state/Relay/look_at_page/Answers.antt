use Rattle.mig_relay.proofs.Common.{◌≡◌, ◌+◌, ◌∷◌, ◌++◌, None, Some, Ok, Err, length, length-append, arith, rules, refl, sym, subst, [], ap, ◌∙◌, Record, before, type_in_word, type_in_guest, fault_of_level, part, Truncated, AgreesWithJudging, TakesFew, AtPages, entry_of_word, InImage, answer_of, Relay, get_or_read, level_of, counted}
use Rattle.mig_relay.proofs.Moves.{not_taken, went}
use Rattle.mig_relay.proofs.Kept.{this_number}
use Rattle.mig_relay.proofs.Paging.{IsKept, next_word, page_is, outer_stays, records_stay, turned, turning_keeps, same_page_fault, page_left}
use Rattle.mig_relay.proofs.state.Relay.look_at_page.Goals as goal

pub returns-in-Err-clause-moved : goal.returns-in-Err-clause-moved
returns-in-Err-clause-moved g c outer o records coming stood around kept pages padding words =
    let p = c.in-Err.ensures.page in
    let r : Relay = c.args.self.now in
    let old = g.S.Source.left c.args.src.now in
    let new = g.S.Source.left c.take_unseen_page.new.src in
    not_taken (page_is outer o records c.args.head r coming stood words) _ _ _ _ _ _ p.page p.whole (omega (arith, p.whole)) c.in-Err.stop _
    (c.answer.ensures ∙ ap (λ n. answer_of (Record n) c.in-Err.stop) (c.from.ensures ∙ this_number _ o records _ kept.seen)) refl
    (subst (λ n. AgreesWithJudging {X = Unit {0}} (λ _ b. b ≡ p.page) old new (part Truncated n) (Err c.in-Err.stop)) (sym p.whole) p.read)
    (subst (λ n. TakesFew n old new) (sym p.whole) p.few) refl

pub returns-in-Ok-clause-moved : goal.returns-in-Ok-clause-moved
returns-in-Ok-clause-moved g c outer o records coming stood around kept pages padding words =
    let p = c.in-Ok.ensures.page in
    let r : Relay = c.args.self.now in
    let old = g.S.Source.left c.args.src.now in
    let new = g.S.Source.left c.take_unseen_page.new.src in
    let bare : level_of c.type_in_guest-kind.result ≡ None = search rules in
    let fine =
    same_page_fault r.seen.kind o.kind r.top (before o records).top r.page r.page (next_word r) c.type_in_guest-kind.result p.page None kept.seen.kind kept.top refl
    (c.type_in_guest-kind.ensures ∙ ap (type_in_guest r.seen.kind) (c.type_in.ensures ∙ ap type_in_word (get_or_read r.words.items _ _ words.some c.index.ensures 0)))
    (ap (λ l. fault_of_level r.top r.page l p.page) (sym bare)) in
    let held : Relay = record r { passed = c.saturating_add-self.result } in
    let stays : IsKept r held = record { wrapper = refl; seen = refl; top = refl } in
    let behind = stood ++ entry_of_word (next_word r) (Some p.page) ∷ [] in
    let e = c.turn_to.ensures in
    let many : length behind ≡ held.page + 1 = omega (arith, length-append stood (entry_of_word (next_word r) (Some p.page) ∷ []), words.behind) in
    let t = turned held c.turn_to.new.self c.args.head e.within.1 e.page e.over outer o records (held.page + 1) behind many e.within.0 e.data e.none c.requires.few (outer_stays _ held outer stays around) (records_stay _ held o records _ _ stays kept) pages padding in
    record {
      is =
          went (page_is outer o records c.args.head r coming stood words) _ _ _ _ _ _ p.page p.whole (omega (arith, p.whole)) _ t.next [] _ fine
          (subst (λ n. AgreesWithJudging {X = Unit {0}} (λ _ b. b ≡ p.page) old new (part Truncated n) (Ok tt)) (sym p.whole) p.read)
          tt t.same t.keeps
          (turning_keeps held c.turn_to.new.self c.args.head e.within.1 e.page e.over (λ x. x.passed) (λ _. refl) (λ _. refl) ∙ (c.saturating_add-self.ensures ∙ ap (counted r.passed) (sym p.whole)))
          (refl, omega (arith, p.whole))
          (λ _. turning_keeps held c.turn_to.new.self c.args.head e.within.1 e.page e.over (λ x. x.words.items) (λ _. refl) (λ _. refl))
          (t.follows (InImage outer (AtPages o records c.args.head coming stood)) p.page refl refl (λ e. cc) tt (page_left r held coming stood (length p.page) words refl refl p.whole));
    }
