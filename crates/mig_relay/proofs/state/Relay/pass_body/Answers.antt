use Rattle.mig_relay.proofs.Common.{◌≡◌, ◌<◌, ◌+◌, ◌++◌, refl, sym, [], ap, subst, ◌∙◌, arith, length, length-append, append_assoc, common_steps, Record, IsBegunBody, fault_of_record_body, record_content, before, top_with, more, AtBody, InImage, spot, answer_of, counted, Refused, Piece, Relay}
use Rattle.mig_relay.proofs.BehindBodies.{body_part, not_end, first_more, top_more, top_whole, behind_record}
use Rattle.mig_relay.proofs.Kept.{this_number, records_topped, outer_same}
use Rattle.mig_relay.proofs.Moves.{stopped, unwritten, refused_behind, goes_on, passes}
use Rattle.mig_relay.proofs.state.Relay.pass_body.Goals as goal

pub returns-in-Err-clause-moved : goal.returns-in-Err-clause-moved
returns-in-Err-clause-moved g c outer o records begun around kept other first body =
    let size : length c.take_part.new.buf ≡ c.next_piece-count.result = c.take_part.auto.buf ∙ grind (arith, common_steps, c.next_piece-count.ensures.most) in
    stopped _ _ _ _ _ (body_part outer o records c.args.head other (omega (arith, body.less))) (omega arith) begun _ _ _ _ _ _ c.take_part.new.buf c.in-Err.stop _ (c.answer.ensures ∙ ap (λ n. answer_of (Record n) c.in-Err.stop) (c.from.ensures ∙ this_number _ o records _ kept.seen))
    (omega (arith, size, body.known.taken, c.next_piece-count.ensures.within, body.len)) (omega (arith, size, c.next_piece-count.ensures.some)) refl c.in-Err.ensures.read (omega (arith, size, c.next_piece-count.ensures.most)) c.in-Err.ensures.few refl

pub returns-in-Err-put-clause-moved : goal.returns-in-Err-put-clause-moved
returns-in-Err-put-clause-moved g c outer o records begun around kept other first body =
    let size : length c.take_part.new.buf ≡ c.next_piece-count.result = c.take_part.auto.buf ∙ grind (arith, common_steps, c.next_piece-count.ensures.most) in
    unwritten _ _ _ _ _ (body_part outer o records c.args.head other (omega (arith, body.less))) (omega arith) begun _ _ _ _ _ _ c.take_part.new.buf _ (omega (arith, size, c.next_piece-count.ensures.most)) (omega (arith, size, body.known.taken, c.next_piece-count.ensures.within, body.len))
    c.in_default.ensures.read c.in-Err-put.ensures.bytes

pub returns-then-self-clause-moved : goal.returns-then-self-clause-moved
returns-then-self-clause-moved g c outer o records begun around kept other first body =
    let buf = c.take_part.new.buf in
    let size : length buf ≡ c.next_piece-count.result = c.take_part.auto.buf ∙ grind (arith, common_steps, c.next_piece-count.ensures.most) in
    let some : 0 < length buf = omega (arith, size, c.next_piece-count.ensures.some) in
    let same : c.put.new.self ≡ record c.args.self.now { passed = counted c.args.self.now.passed (length buf) } = c.in_default-put.ensures.kept in
    let len : c.pass.new.self.len ≡ c.args.self.now.body.len = c.pass.ensures.len ∙ ap (λ (r : Relay). r.body.len) same in
    let taken : c.pass.new.self.taken ≡ c.args.self.now.body.taken + length buf = c.pass.ensures.taken ∙ ap (λ (r : Relay). r.body.taken + length buf) same in
    let begins : c.put.new.self.body.taken ≡ length begun = ap (λ (r : Relay). r.body.taken) same ∙ body.known.taken in
    let top : c.top_behind-self.result ≡ top_with c.args.head.kind (begun ++ buf) (before o records).top =
    top_more c.args.head.kind begun buf (before o records).top c.args.self.now.top _ kept.top first.come (λ none. c.top_behind-self.ensures.first (begins ∙ none) some ∙ ap (λ (r : Relay). top_with c.args.head.kind buf r.top) same)
    (λ more. c.top_behind-self.ensures.later (omega (arith, begins, more)) ∙ ap (λ (r : Relay). r.top) same) in
    record {
      is =
          goes_on _ _ _ _ _ (body_part outer o records c.args.head other (omega (arith, body.less))) (omega arith) begun c.args.self.now _ _ _ _ _ buf _ (InImage outer (AtBody o records c.args.head)) (begun ++ buf) Piece (omega (arith, size, body.known.taken, c.next_piece-count.ensures.within, body.len)) (omega (arith, size, c.next_piece-count.ensures.most)) some
          c.in_default.ensures.read c.in_default-put.ensures.bytes (λ more. ap (spot (InImage outer (AtBody o records c.args.head))) (sym (append_assoc begun buf more))) (
            outer_same c.args.self.now _ outer (ap (λ (r : Relay). r.wrapper) same) around,
            (
              ap (λ (r : Relay). r.coming) same ∙ c.requires.coming,
              records_topped c.args.self.now _ o records _ _ _ (ap (λ (r : Relay). r.seen) same) top kept,
              other,
              record {
                coming = λ three none. omega (arith, ap length none, length-append begun buf, some);
                come = λ three more. first_more c.args.self.now c.args.head begun buf first (size ∙ c.next_piece-count.ensures.value) three;
              },
              record {
                len = len ∙ body.len;
                known = c.pass.ensures.begun (fault_of_record_body c.args.head.kind) begun (subst (λ (r : Relay). IsBegunBody r.body (fault_of_record_body c.args.head.kind) begun) (sym same) body.known);
                less = omega (arith, length-append begun buf, len, taken, body.known.taken, body.len, c.if-self.true);
              },
            ),
          )
          (ap (λ (r : Relay). r.passed) same) (refl, omega (arith, size, c.next_piece-count.ensures.most)) (λ _. ap (λ (r : Relay). r.words.items) same)
          (more (InImage outer (AtBody o records c.args.head)) (InImage outer (AtBody o records c.args.head)) begun buf (begun ++ buf) c.args.head refl refl refl (λ e. cc) refl tt (omega (arith, length-append begun buf)));
    }

pub returns-in-Some-clause-moved : goal.returns-in-Some-clause-moved
returns-in-Some-clause-moved g c outer o records begun around kept other first body =
    let buf = c.take_part.new.buf in
    let size : length buf ≡ c.next_piece-count.result = c.take_part.auto.buf ∙ grind (arith, common_steps, c.next_piece-count.ensures.most) in
    let same : c.put.new.self ≡ record c.args.self.now { passed = counted c.args.self.now.passed (length buf) } = c.in_default-put.ensures.kept in
    let len : c.pass.new.self.len ≡ c.args.self.now.body.len = c.pass.ensures.len ∙ ap (λ (r : Relay). r.body.len) same in
    let taken : c.pass.new.self.taken ≡ c.args.self.now.body.taken + length buf = c.pass.ensures.taken ∙ ap (λ (r : Relay). r.body.taken + length buf) same in
    let known = c.pass.ensures.begun (fault_of_record_body c.args.head.kind) begun (subst (λ (r : Relay). IsBegunBody r.body (fault_of_record_body c.args.head.kind) begun) (sym same) body.known) in
    let whole : length (begun ++ buf) ≡ c.args.head.len = omega (arith, length-append begun buf, size, len, taken, body.known.taken, body.len, c.next_piece-count.ensures.within, c.if-self.false) in
    refused_behind _ _ _ _ _ (body_part outer o records c.args.head other (omega (arith, body.less))) (omega arith) begun _ _ _ _ _ _ buf _ c.in-Some.cause _ (ap (λ n. Refused (Record n) c.in-Some.cause) (c.from.ensures ∙ this_number _ o records _ kept.seen)) whole
    (sym (c.fault.ensures (fault_of_record_body c.args.head.kind) (begun ++ buf) known) ∙ c.in-Some.is) c.in_default.ensures.read (omega (arith, size, c.next_piece-count.ensures.most)) c.in_default-put.ensures.bytes refl refl

pub returns-clause-moved : goal.returns-clause-moved
returns-clause-moved g c outer o records begun around kept other first body =
    let buf = c.take_part.new.buf in
    let size : length buf ≡ c.next_piece-count.result = c.take_part.auto.buf ∙ grind (arith, common_steps, c.next_piece-count.ensures.most) in
    let some : 0 < length buf = omega (arith, size, c.next_piece-count.ensures.some) in
    let same : c.put.new.self ≡ record c.args.self.now { passed = counted c.args.self.now.passed (length buf) } = c.in_default-put.ensures.kept in
    let len : c.pass.new.self.len ≡ c.args.self.now.body.len = c.pass.ensures.len ∙ ap (λ (r : Relay). r.body.len) same in
    let taken : c.pass.new.self.taken ≡ c.args.self.now.body.taken + length buf = c.pass.ensures.taken ∙ ap (λ (r : Relay). r.body.taken + length buf) same in
    let begins : c.put.new.self.body.taken ≡ length begun = ap (λ (r : Relay). r.body.taken) same ∙ body.known.taken in
    let top : c.top_behind-self.result ≡ top_with c.args.head.kind (begun ++ buf) (before o records).top =
    top_more c.args.head.kind begun buf (before o records).top c.args.self.now.top _ kept.top first.come (λ none. c.top_behind-self.ensures.first (begins ∙ none) some ∙ ap (λ (r : Relay). top_with c.args.head.kind buf r.top) same)
    (λ more. c.top_behind-self.ensures.later (omega (arith, begins, more)) ∙ ap (λ (r : Relay). r.top) same) in
    let known = c.pass.ensures.begun (fault_of_record_body c.args.head.kind) begun (subst (λ (r : Relay). IsBegunBody r.body (fault_of_record_body c.args.head.kind) begun) (sym same) body.known) in
    let whole : length (begun ++ buf) ≡ c.args.head.len = omega (arith, length-append begun buf, size, len, taken, body.known.taken, body.len, c.next_piece-count.ensures.within, c.if-self.false) in
    let is = body_part outer o records c.args.head other (omega (arith, body.less)) in
    let t : Relay = record c.put.new.self { coming = c.behind_body-self.result; top = c.top_behind-self.result; body = c.pass.new.self } in
    let b =
    behind_record t outer o records c.args.head (record_content c.args.head.kind (begun ++ buf)) (outer_same c.args.self.now t outer (ap (λ (r : Relay). r.wrapper) same) around)
    (records_topped c.args.self.now t o records _ _ _ (ap (λ (r : Relay). r.seen) same) (top ∙ top_whole o records c.args.head (begun ++ buf) (omega (arith, length-append begun buf, some))) kept) (not_end outer o records c.args.head other (omega (arith, body.less)))
    c.behind_body-self.ensures.padding c.behind_body-self.ensures.none in
    record {
      is =
          goes_on _ _ _ _ _ is (omega arith) begun c.args.self.now _ _ _ _ _ buf _ b.next [] Piece (omega (arith, size, body.known.taken, c.next_piece-count.ensures.within, body.len)) (omega (arith, size, c.next_piece-count.ensures.most)) some c.in_default.ensures.read c.in_default-put.ensures.bytes
          (λ more. ap (spot (InImage outer (AtBody o records c.args.head))) (sym (append_assoc begun buf more))
          ∙ passes (InImage outer (AtBody o records c.args.head)) _ _ _ _ is (begun ++ buf) more whole (sym (c.fault.ensures (fault_of_record_body c.args.head.kind) (begun ++ buf) known) ∙ c.in_default-fault.is) ∙ b.same more)
          b.keeps (ap (λ (r : Relay). r.passed) same) (refl, omega (arith, size, c.next_piece-count.ensures.most)) (λ _. ap (λ (r : Relay). r.words.items) same) (b.follows begun buf (omega (arith, whole, length-append begun buf)));
    }
