use Rattle.mig_relay.proofs.Common.{◌≡◌, ◌≤◌, ◌*◌, ◌^◌, length, arith, refl, sym, subst, [], ap, ◌∙◌, Appends, AppendsPart, Record, words, before, with_places, AtPages, AtWords, InImage, spot, answer_of, counted, Refused, Relay}
use Rattle.mig_relay.proofs.Moves.{not_taken, not_allowed, not_written, gave_up, went}
use Rattle.mig_relay.proofs.Kept.{this_number}
use Rattle.mig_relay.proofs.Paging.{IsKept, words_is, blank, blank_len, few_bytes, buffered, unbuffered, whole_list, outer_stays, records_stay, turned, turning_keeps, same_list_fault, filled, words_left}
use Rattle.mig_relay.proofs.state.Relay.pass_words.Goals as goal

pub returns-in-Err-clause-moved : goal.returns-in-Err-clause-moved
returns-in-Err-clause-moved g c outer o records around kept pages =
    let n = c.args.count in
    let size : length (blank (8 * n)) ≡ 8 * n = blank_len (8 * n) in
    not_taken (words_is outer o records c.args.head n c.requires.some) _ _ _ _ _ _ (blank (8 * n)) size (omega (arith, size)) c.in-Err.stop _
    (c.answer.ensures ∙ ap (λ m. answer_of (Record m) c.in-Err.stop) (c.from.ensures ∙ this_number _ o records _ kept.seen)) refl (unbuffered _ (blank (8 * n)) (8 * n) c.in-Err.stop _ _ (sym size) c.in-Err.ensures.read) (few_bytes _ _ _ _ (sym size) c.in-Err.ensures.few) refl

pub returns-in-Err-words_of-clause-moved : goal.returns-in-Err-words_of-clause-moved
returns-in-Err-words_of-clause-moved g c outer o records around kept pages =
    let n = c.args.count in
    let bytes = c.in-Ok.bytes.items in
    let size : length bytes ≡ 8 * n = omega (arith, c.in-Ok.bytes.ok.0, c.in-Ok.ensures.len) in
    gave_up (words_is outer o records c.args.head n c.requires.some) _ _ _ _ _ _ bytes size (omega (arith, size)) _ refl (buffered _ c.in-Ok.bytes (8 * n) _ _ (sym size) c.in-Ok.ensures.read)

pub returns-in-Some-clause-moved : goal.returns-in-Some-clause-moved
returns-in-Some-clause-moved g c outer o records around kept pages =
    let n = c.args.count in
    let bytes = c.in-Ok.bytes.items in
    let size : length bytes ≡ 8 * n = omega (arith, c.in-Ok.bytes.ok.0, c.in-Ok.ensures.len) in
    let same_words : c.deref-2.result.now ≡ words n bytes = c.deref-2.ensures.value ∙ c.in-Ok-words_of.ensures.words ∙ ap (words n) c.deref.ensures.value in
    not_allowed (words_is outer o records c.args.head n c.requires.some) _ _ _ _ _ _ bytes size (omega (arith, size)) _ c.in-Some.cause _ (ap (λ m. Refused (Record m) c.in-Some.cause) (c.from.ensures ∙ this_number _ o records _ kept.seen))
    (same_list_fault _ o.kind _ (before o records).top c.args.head.len n _ bytes _ kept.seen.kind kept.top same_words c.in-Some.ensures.fault) refl (buffered _ c.in-Ok.bytes (8 * n) _ _ (sym size) c.in-Ok.ensures.read) refl

pub returns-in-Err-put-clause-moved : goal.returns-in-Err-put-clause-moved
returns-in-Err-put-clause-moved g c outer o records around kept pages =
    let n = c.args.count in
    let bytes = c.in-Ok.bytes.items in
    let size : length bytes ≡ 8 * n = omega (arith, c.in-Ok.bytes.ok.0, c.in-Ok.ensures.len) in
    not_written (words_is outer o records c.args.head n c.requires.some) _ _ _ _ _ _ bytes size (omega (arith, size)) _ (buffered _ c.in-Ok.bytes (8 * n) _ _ (sym size) c.in-Ok.ensures.read)
    (subst (AppendsPart (g.K.Sink.written c.args.sink.now) (g.K.Sink.written c.put.new.sink)) c.deref-3.ensures.value c.in-Err-put.ensures.bytes)

pub returns-clause-moved : goal.returns-clause-moved
returns-clause-moved g c outer o records around kept pages =
    let n = c.args.count in
    let bytes = c.in-Ok.bytes.items in
    let size : length bytes ≡ 8 * n = omega (arith, c.in-Ok.bytes.ok.0, c.in-Ok.ensures.len) in
    let same_words : c.deref-2.result.now ≡ words n bytes = c.deref-2.ensures.value ∙ c.in-Ok-words_of.ensures.words ∙ ap (words n) c.deref.ensures.value in
    let kept_words : c.in-Ok-words_of.words.items ≡ words n bytes = c.in-Ok-words_of.ensures.words ∙ ap (words n) c.deref.ensures.value in
    let fine = same_list_fault _ o.kind _ (before o records).top c.args.head.len n _ bytes _ kept.seen.kind kept.top same_words c.in_default.ensures.fault in
    let put = c.in_default-put.ensures.kept in
    let held : Relay = record c.put.new.self { words = c.in-Ok-words_of.words } in
    let stays : IsKept c.args.self.now held = record { wrapper = ap (λ (r : Relay). r.wrapper) put; seen = ap (λ (r : Relay). r.seen) put; top = ap (λ (r : Relay). r.top) put } in
    let e = c.turn_to.ensures in
    let few : length held.words.items ≤ 2 ^ 24 = omega (arith, c.in-Ok-words_of.words.ok.0, c.in-Ok-words_of.ensures.len, c.requires.within, c.requires.small) in
    let t = turned held c.turn_to.new.self c.args.head e.within.1 e.page e.over outer o records 0 [] refl e.within.0 e.data e.none few (outer_stays _ held outer stays around) (records_stay _ held o records _ _ stays kept) pages
    (whole_list o.kind (before o records).top c.args.head.len n bytes fine) in
    record {
      is =
          went (words_is outer o records c.args.head n c.requires.some) _ _ _ _ _ _ bytes size (omega (arith, size)) _ t.next [] _ fine (buffered _ c.in-Ok.bytes (8 * n) _ _ (sym size) c.in-Ok.ensures.read)
          (subst (Appends (g.K.Sink.written c.args.sink.now) (g.K.Sink.written c.put.new.sink)) c.deref-3.ensures.value c.in_default-put.ensures.bytes)
          (λ more. ap (λ l. spot (InImage outer (AtPages o records c.args.head (with_places 0 l) [])) more) (sym kept_words) ∙ t.same more) t.keeps
          (turning_keeps held c.turn_to.new.self c.args.head e.within.1 e.page e.over (λ r. r.passed) (λ _. refl) (λ _. refl) ∙ ap (λ (r : Relay). r.passed) put ∙ ap (λ l. counted c.args.self.now.passed (length l)) c.deref-3.ensures.value)
          (turning_keeps held c.turn_to.new.self c.args.head e.within.1 e.page e.over (λ r. r.words.items) (λ _. refl) (λ _. refl) ∙ kept_words, size)
          (λ e. cc)
          (t.follows (InImage outer (AtWords o records c.args.head n)) bytes refl refl (λ e. cc) (filled o.kind (before o records).top c.args.head n bytes fine) (words_left o.kind (before o records).top c.args.head n bytes fine held.words.items kept_words size));
    }
