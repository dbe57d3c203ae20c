use Rattle.mig_legacy.proofs.Common.{said_read, said_refused, Truncated, BadToolstack, ◌≡◌, ◌>>=◌, None, Some, rules, refl, sym, ap, subst, ◌∙◌, AreBytes, part, tried, Passes, stopped, store_small, pairs_kept, toolstack, toolstack_fault, judged_as, said_form, first_named, toolstack_causes, pairs_of_toolstack, store_key, Pairs, put_in_emulators, text_of_physmaps, most_body}
use Rattle.mig_legacy.proofs.Parts.{counted_reads, counted_stops, toolstack_wrong}
use Rattle.mig_legacy.proofs.ToolstackPairs.{text_faultless, toolstack_fits, toolstack_over, toolstack_put}
use Rattle.mig_legacy.proofs.body.take_toolstack.Goals as goal

pub returns-in_err-len-clause-read : goal.returns-in_err-len-clause-read
returns-in_err-len-clause-read g c =
    counted_stops _ most_body (toolstack_causes c.args.emulators.now) (λ b. Pairs (pairs_of_toolstack b)) _ _ c.in_err-len.field-0.0 c.from_residual.result (search rules) c.in_err-len.ensures.read

pub returns-in_err-body-clause-read : goal.returns-in_err-body-clause-read
unfolding judged_as
returns-in_err-body-clause-read g c =
    let e = c.args.emulators.now in
    counted_reads _ most_body (toolstack_causes e) (λ b. Pairs (pairs_of_toolstack b)) _ _ _ c.in_ok-len.len c.from_residual-in_err-body.result c.in_ok-len.ensures.read
    (stopped _ _ _ _ (part Truncated c.in_ok-len.len) (judged_as (said_form Truncated c.in_ok-len.len (toolstack_causes e) (λ b. Pairs (pairs_of_toolstack b)))) (λ bytes. tried (first_named (toolstack_causes e bytes.0)) bytes.1 >>= λ _. Passes (Pairs (pairs_of_toolstack bytes.0)) bytes.1) c.in_err-body.field-0.0 c.from_residual-in_err-body.result (λ i. refl) (search rules) c.in_err-body.ensures.read)

pub returns-in-Some-clause-read : goal.returns-in-Some-clause-read
unfolding judged_as
returns-in-Some-clause-read g c =
    let e = c.args.emulators.now in
    let body = c.in_ok-body.body.items in
    let wrong : toolstack_fault body ≡ Some c.in-Some.offset = search rules in
    counted_reads _ most_body (toolstack_causes e) (λ b. Pairs (pairs_of_toolstack b)) _ _ _ c.in_ok-len.len _ c.in_ok-len.ensures.read
    (said_refused Truncated _ _ c.in_ok-len.len c.in_ok-len.len refl (λ b. Pairs (pairs_of_toolstack b)) c.in_ok-body.body (λ b. first_named (toolstack_causes e b)) _ _ (BadToolstack c.in-Some.offset) c.in_ok-body.ensures.read
    (λ bytes at. ap (λ b. first_named (toolstack_causes e b)) at ∙ toolstack_wrong e body c.in-Some.offset wrong))

pub add_pairs-requires-clause-faultless : goal.add_pairs-requires-clause-faultless
add_pairs-requires-clause-faultless g c =
    let body = c.in_ok-body.body.items in
    let none : toolstack_fault body ≡ None = search rules in
    let is : c.deref-4.result.now ≡ text_of_physmaps (toolstack body) = search rules in
    text_faultless c.args.emulators.now body _ none is

pub add_pairs-requires-clause-small : goal.add_pairs-requires-clause-small
add_pairs-requires-clause-small g c = store_small c.args.emulators.now store_key c.requires.begun

pub returns-in-Ok-add_pairs-clause-read : goal.returns-in-Ok-add_pairs-clause-read
unfolding judged_as
returns-in-Ok-add_pairs-clause-read g c =
    let e = c.args.emulators.now in
    let body = c.in_ok-body.body.items in
    let none : toolstack_fault body ≡ None = search rules in
    let is : c.deref-4.result.now ≡ text_of_physmaps (toolstack body) = search rules in
    counted_reads _ most_body (toolstack_causes e) (λ b. Pairs (pairs_of_toolstack b)) _ _ _ c.in_ok-len.len _ c.in_ok-len.ensures.read
    (said_read Truncated _ _ c.in_ok-len.len c.in_ok-len.len refl (λ b. Pairs (pairs_of_toolstack b)) c.in_ok-body.body (λ b. first_named (toolstack_causes e b)) _ _ tt c.in_ok-body.ensures.read
    (λ bytes at. (
      ap (λ b. first_named (toolstack_causes e b)) at ∙ toolstack_fits e body _ none is c.in-Ok-add_pairs.ensures.fits,
      toolstack_put e body _ none is _ c.in-Ok-add_pairs.ensures.ok ∙ ap (λ b. put_in_emulators e (Pairs (pairs_of_toolstack b))) (sym at),
    )))

pub returns-in-Ok-add_pairs-clause-begun : goal.returns-in-Ok-add_pairs-clause-begun
returns-in-Ok-add_pairs-clause-begun g c =
    let e = c.args.emulators.now in
    let body = c.in_ok-body.body.items in
    let none : toolstack_fault body ≡ None = search rules in
    let is : c.deref-4.result.now ≡ text_of_physmaps (toolstack body) = search rules in
    let alike : c.deref-3.result.now ≡ c.deref-4.result.now = search rules in
    pairs_kept e c.add_pairs.new.self c.deref-4.result.now 0 0 c.requires.begun (search rules) (search rules) c.in-Ok-add_pairs.ensures.ok (text_faultless e body _ none is) c.in-Ok-add_pairs.ensures.fits (subst AreBytes alike c.are_bytes.ensures)

pub returns-in-Err-TooMany-clause-read : goal.returns-in-Err-TooMany-clause-read
unfolding judged_as
returns-in-Err-TooMany-clause-read g c =
    let e = c.args.emulators.now in
    let body = c.in_ok-body.body.items in
    let none : toolstack_fault body ≡ None = search rules in
    let is : c.deref-4.result.now ≡ text_of_physmaps (toolstack body) = search rules in
    counted_reads _ most_body (toolstack_causes e) (λ b. Pairs (pairs_of_toolstack b)) _ _ _ c.in_ok-len.len _ c.in_ok-len.ensures.read
    (said_refused Truncated _ _ c.in_ok-len.len c.in_ok-len.len refl (λ b. Pairs (pairs_of_toolstack b)) c.in_ok-body.body (λ b. first_named (toolstack_causes e b)) _ _ _ c.in_ok-body.ensures.read
    (λ bytes at. ap (λ b. first_named (toolstack_causes e b)) at ∙ toolstack_over e body _ none is (search rules)))
