use Rattle.mig_relay.proofs.Common.{◌≡◌, ◌+◌, ◌++◌, refl, sym, [], ap, subst, ◌∙◌, arith, length, length-append, append_assoc, common_steps, IsBegunBody, fault_of_libxl_body, more, AtLibxlBody, spot, answer_of, counted, Refused, Piece, Relay}
use Rattle.mig_headers.specs.declared.fault.Place.TheVariants.{LibxlRecord as AtRecord}
use Rattle.mig_relay.proofs.BehindBodies.{behind_libxl, no_image}
use Rattle.mig_relay.proofs.Kept.{libxl_number, going_same}
use Rattle.mig_relay.proofs.Moves.{stopped, unwritten, refused_behind, goes_on, passes}
use Rattle.mig_relay.proofs.SpotParts.{libxl_body_is, libxl_content}
use Rattle.mig_relay.proofs.state.Relay.pass_libxl_body.Goals as goal

pub returns-in-Err-clause-moved : goal.returns-in-Err-clause-moved
returns-in-Err-clause-moved g c records begun kept bodied body =
    let size : length c.take_part.new.buf ≡ c.next_piece-count.result = c.take_part.auto.buf ∙ grind (arith, common_steps, c.next_piece-count.ensures.most) in
    stopped _ _ _ _ _ (libxl_body_is records c.args.head (omega (arith, body.less))) (omega arith) begun _ _ _ _ _ _ c.take_part.new.buf c.in-Err.stop _ (c.answer.ensures ∙ ap (λ n. answer_of (AtRecord n) c.in-Err.stop) (c.from.ensures ∙ libxl_number c.args.self.now records c.in-Some.behind kept.0 c.in-Some.is))
    (omega (arith, size, body.known.taken, c.next_piece-count.ensures.within, body.len)) (omega (arith, size, c.next_piece-count.ensures.some)) refl c.in-Err.ensures.read (omega (arith, size, c.next_piece-count.ensures.most)) c.in-Err.ensures.few refl

pub returns-in-Err-put-clause-moved : goal.returns-in-Err-put-clause-moved
returns-in-Err-put-clause-moved g c records begun kept bodied body =
    let size : length c.take_part.new.buf ≡ c.next_piece-count.result = c.take_part.auto.buf ∙ grind (arith, common_steps, c.next_piece-count.ensures.most) in
    unwritten _ _ _ _ _ (libxl_body_is records c.args.head (omega (arith, body.less))) (omega arith) begun _ _ _ _ _ _ c.take_part.new.buf _ (omega (arith, size, c.next_piece-count.ensures.most)) (omega (arith, size, body.known.taken, c.next_piece-count.ensures.within, body.len))
    c.in_default-take_part.ensures.read c.in-Err-put.ensures.bytes

pub returns-then-self-clause-moved : goal.returns-then-self-clause-moved
returns-then-self-clause-moved g c records begun kept bodied body =
    let size : length c.take_part.new.buf ≡ c.next_piece-count.result = c.take_part.auto.buf ∙ grind (arith, common_steps, c.next_piece-count.ensures.most) in
    let same : c.put.new.self ≡ record c.args.self.now { passed = counted c.args.self.now.passed (length c.take_part.new.buf) } = c.in_default-put.ensures.kept in
    let len : c.pass.new.self.len ≡ c.args.self.now.body.len = c.pass.ensures.len ∙ ap (λ (r : Relay). r.body.len) same in
    let taken : c.pass.new.self.taken ≡ c.args.self.now.body.taken + length c.take_part.new.buf = c.pass.ensures.taken ∙ ap (λ (r : Relay). r.body.taken + length c.take_part.new.buf) same in
    record {
      is =
          goes_on _ _ _ _ _ (libxl_body_is records c.args.head (omega (arith, body.less))) (omega arith) begun c.args.self.now _ _ _ _ _ c.take_part.new.buf _ (AtLibxlBody records c.args.head) (begun ++ c.take_part.new.buf) Piece (omega (arith, size, body.known.taken, c.next_piece-count.ensures.within, body.len)) (omega (arith, size, c.next_piece-count.ensures.most)) (omega (arith, size, c.next_piece-count.ensures.some))
          c.in_default-take_part.ensures.read c.in_default-put.ensures.bytes (λ more. ap (spot (AtLibxlBody records c.args.head)) (sym (append_assoc begun c.take_part.new.buf more))) (
            ap (λ (r : Relay). r.coming) same ∙ c.requires.coming,
            (going_same c.args.self.now _ records (ap (λ (r : Relay). r.wrapper) same) (ap (λ (r : Relay). r.seen) same) kept.0, kept.1),
            bodied,
            record {
              len = len ∙ body.len;
              known = c.pass.ensures.begun (fault_of_libxl_body c.args.head.kind) begun (subst (λ (r : Relay). IsBegunBody r.body (fault_of_libxl_body c.args.head.kind) begun) (sym same) body.known);
              less = omega (arith, length-append begun c.take_part.new.buf, len, taken, body.known.taken, body.len, c.if-self.true);
            },
          )
          (ap (λ (r : Relay). r.passed) same) (refl, omega (arith, size, c.next_piece-count.ensures.most)) (λ _. ap (λ (r : Relay). r.words.items) same)
          (more (AtLibxlBody records c.args.head) (AtLibxlBody records c.args.head) begun c.take_part.new.buf (begun ++ c.take_part.new.buf) c.args.head refl refl refl (λ e. cc) refl tt (omega (arith, length-append begun c.take_part.new.buf)));
    }

pub returns-in-Some-fault-clause-moved : goal.returns-in-Some-fault-clause-moved
returns-in-Some-fault-clause-moved g c records begun kept bodied body =
    let size : length c.take_part.new.buf ≡ c.next_piece-count.result = c.take_part.auto.buf ∙ grind (arith, common_steps, c.next_piece-count.ensures.most) in
    let same : c.put.new.self ≡ record c.args.self.now { passed = counted c.args.self.now.passed (length c.take_part.new.buf) } = c.in_default-put.ensures.kept in
    let len : c.pass.new.self.len ≡ c.args.self.now.body.len = c.pass.ensures.len ∙ ap (λ (r : Relay). r.body.len) same in
    let taken : c.pass.new.self.taken ≡ c.args.self.now.body.taken + length c.take_part.new.buf = c.pass.ensures.taken ∙ ap (λ (r : Relay). r.body.taken + length c.take_part.new.buf) same in
    let known = c.pass.ensures.begun (fault_of_libxl_body c.args.head.kind) begun (subst (λ (r : Relay). IsBegunBody r.body (fault_of_libxl_body c.args.head.kind) begun) (sym same) body.known) in
    let whole : length (begun ++ c.take_part.new.buf) ≡ c.args.head.len = omega (arith, length-append begun c.take_part.new.buf, size, len, taken, body.known.taken, body.len, c.next_piece-count.ensures.within, c.if-self.false) in
    refused_behind _ _ _ _ _ (libxl_body_is records c.args.head (omega (arith, body.less))) (omega arith) begun _ _ _ _ _ _ c.take_part.new.buf _ c.in-Some-fault.cause _
    (ap (λ n. Refused (AtRecord n) c.in-Some-fault.cause) (c.from.ensures ∙ libxl_number c.args.self.now records c.in-Some.behind kept.0 c.in-Some.is)) whole
    (sym (c.fault.ensures (fault_of_libxl_body c.args.head.kind) (begun ++ c.take_part.new.buf) known) ∙ c.in-Some-fault.is) c.in_default-take_part.ensures.read (omega (arith, size, c.next_piece-count.ensures.most)) c.in_default-put.ensures.bytes refl refl

pub returns-clause-moved : goal.returns-clause-moved
returns-clause-moved g c records begun kept bodied body =
    let size : length c.take_part.new.buf ≡ c.next_piece-count.result = c.take_part.auto.buf ∙ grind (arith, common_steps, c.next_piece-count.ensures.most) in
    let same : c.put.new.self ≡ record c.args.self.now { passed = counted c.args.self.now.passed (length c.take_part.new.buf) } = c.in_default-put.ensures.kept in
    let len : c.pass.new.self.len ≡ c.args.self.now.body.len = c.pass.ensures.len ∙ ap (λ (r : Relay). r.body.len) same in
    let taken : c.pass.new.self.taken ≡ c.args.self.now.body.taken + length c.take_part.new.buf = c.pass.ensures.taken ∙ ap (λ (r : Relay). r.body.taken + length c.take_part.new.buf) same in
    let known = c.pass.ensures.begun (fault_of_libxl_body c.args.head.kind) begun (subst (λ (r : Relay). IsBegunBody r.body (fault_of_libxl_body c.args.head.kind) begun) (sym same) body.known) in
    let whole : length (begun ++ c.take_part.new.buf) ≡ c.args.head.len = omega (arith, length-append begun c.take_part.new.buf, size, len, taken, body.known.taken, body.len, c.next_piece-count.ensures.within, c.if-self.false) in
    let is = libxl_body_is records c.args.head (omega (arith, body.less)) in
    let b =
    behind_libxl c.args.self.now (record c.put.new.self { body = c.pass.new.self }) c.end_libxl_body.new.self records c.args.head (libxl_content c.args.head.kind (begun ++ c.take_part.new.buf)) c.in-Some.behind kept bodied (no_image c.args.head.kind (begun ++ c.take_part.new.buf)) c.in-Some.is
    (ap (λ (r : Relay). r.wrapper) same) (ap (λ (r : Relay). r.seen) same) c.end_libxl_body.ensures.padding c.end_libxl_body.ensures.none in
    record {
      is =
          goes_on _ _ _ _ _ is (omega arith) begun c.args.self.now _ _ _ _ _ c.take_part.new.buf _ b.next [] Piece (omega (arith, size, body.known.taken, c.next_piece-count.ensures.within, body.len)) (omega (arith, size, c.next_piece-count.ensures.most)) (omega (arith, size, c.next_piece-count.ensures.some)) c.in_default-take_part.ensures.read c.in_default-put.ensures.bytes
          (λ more. ap (spot (AtLibxlBody records c.args.head)) (sym (append_assoc begun c.take_part.new.buf more))
          ∙ passes (AtLibxlBody records c.args.head) _ _ _ _ is (begun ++ c.take_part.new.buf) more whole (sym (c.fault.ensures (fault_of_libxl_body c.args.head.kind) (begun ++ c.take_part.new.buf) known) ∙ c.in_default-fault.is) ∙ b.same more)
          b.keeps (b.passed ∙ ap (λ (r : Relay). r.passed) same) (refl, omega (arith, size, c.next_piece-count.ensures.most)) (λ _. b.words ∙ ap (λ (r : Relay). r.words.items) same) (b.follows begun c.take_part.new.buf (omega (arith, whole, length-append begun c.take_part.new.buf)));
    }
