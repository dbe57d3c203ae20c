use Rattle.mig_legacy.proofs.Common.{said_read, said_refused, ◌≡◌, length, Ok, Err, rules, refl, sym, ap, subst, ◌∙◌, AreBytes, ◌>>=◌, part, tried, Passes, stopped, scan, Truncated, BadContext, judged_as, length_form, context_fault, tail_of, tail_form, put_tail, most_body}
use Rattle.mig_legacy.proofs.Tails.{behind_frames, context_at, tail_parts, counted_parts, framed, counted, tail_plain}
use Rattle.mig_legacy.proofs.tail.take_tail.Goals as goal

pub returns-in_err-take_part-clause-read : goal.returns-in_err-take_part-clause-read
returns-in_err-take_part-clause-read g c =
    let len : length c.take_part.new.buf ≡ 24 = search rules in
    stopped _ _ _ _ (part Truncated (length c.take_part.new.buf)) (judged_as tail_form) behind_frames c.in_err-take_part.field-0.0 c.from_residual.result (tail_parts _ len) (search rules) c.in_err-take_part.ensures.read

pub returns-in_err-len-clause-read : goal.returns-in_err-len-clause-read
returns-in_err-len-clause-read g c =
    let buf = c.take_part.new.buf in
    let len : length buf ≡ 24 = search rules in
    framed _ _ len buf _ _ c.in_ok-take_part.ensures.read _ c.from_residual-in_err-len.result
    (stopped _ _ _ _ (judged_as (length_form most_body)) (λ i. behind_frames (buf, i)) (λ n. context_at buf n.0 n.1) c.in_err-len.field-0.0 c.from_residual-in_err-len.result (counted_parts buf) (search rules) c.in_err-len.ensures.read)

pub returns-in_err-context-clause-read : goal.returns-in_err-context-clause-read
returns-in_err-context-clause-read g c =
    let buf = c.take_part.new.buf in
    let len : length buf ≡ 24 = search rules in
    counted _ _ len buf _ _ c.in_ok-take_part.ensures.read _ _ c.in_ok-len.len c.from_residual-in_err-context.result c.in_ok-len.ensures.read
    (stopped _ _ _ _ (part Truncated c.in_ok-len.len) (context_at buf c.in_ok-len.len) (λ bytes. tried (context_fault (scan bytes.0)) bytes.1 >>= λ _. Passes (tail_of buf bytes.0) bytes.1) c.in_err-context.field-0.0 c.from_residual-in_err-context.result (λ i. refl) (search rules) c.in_err-context.ensures.read)

pub returns-in-Err-clause-read : goal.returns-in-Err-clause-read
returns-in-Err-clause-read g c =
    let buf = c.take_part.new.buf in
    let len : length buf ≡ 24 = search rules in
    let bad : scan c.in_ok-context.context.items ≡ Err c.in-Err.fault = search rules in
    counted _ _ len buf _ _ c.in_ok-take_part.ensures.read _ _ c.in_ok-len.len _ c.in_ok-len.ensures.read
    (said_refused Truncated _ _ c.in_ok-len.len c.in_ok-len.len refl (tail_of buf) c.in_ok-context.context (λ l. context_fault (scan l)) _ _ (BadContext c.in-Err.fault) c.in_ok-context.ensures.read
    (λ bytes is. ap (λ l. context_fault (scan l)) is ∙ ap context_fault bad))

pub returns-in-Ok-clause-read : goal.returns-in-Ok-clause-read
returns-in-Ok-clause-read g c =
    let buf = c.take_part.new.buf in
    let len : length buf ≡ 24 = search rules in
    let good : scan c.in_ok-context.context.items ≡ Ok c.in_default.field-0 = search rules in
    let same : c.deref-3.result.now ≡ c.in_ok-context.context.items = search rules in
    counted _ _ len buf _ _ c.in_ok-take_part.ensures.read _ _ c.in_ok-len.len _ c.in_ok-len.ensures.read
    (said_read Truncated _ _ c.in_ok-len.len c.in_ok-len.len refl (tail_of buf) c.in_ok-context.context (λ l. context_fault (scan l)) _ _ tt c.in_ok-context.ensures.read
    (λ bytes is. (ap (λ l. context_fault (scan l)) is ∙ ap context_fault good, c.in-Ok.ensures.ok ∙ ap (λ l. put_tail c.args.guest.now (tail_of buf l)) (same ∙ sym is))))

pub returns-in-Ok-clause-plain : goal.returns-in-Ok-clause-plain
returns-in-Ok-clause-plain g c =
    let context = c.deref-3.result.now in
    let alike : c.deref-2.result.now ≡ context = search rules in
    tail_plain c.args.guest.now c.take_part.new.buf context c.in_default.field-0 c.requires.hvm (search rules) (search rules) (subst AreBytes alike c.are_bytes-2.ensures) (search rules) (search rules) c.set_tail.new.guest c.requires.begun c.requires.few c.in-Ok.ensures.ok
