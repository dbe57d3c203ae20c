use Rattle.mig_restore.proofs.Common.{◌≡◌, ◌∙◌, None, length, ap, sym, subst, rules, AreBytes, fault_of_body, parts_of_body, HasBodyLength, put_content_by, Sets, refl, Truncated, grows_sets, said_read}
use Rattle.mig_restore.proofs.body.take_sets.Goals as goal

pub returns-in-Ok-clause-read : goal.returns-in-Ok-clause-read
returns-in-Ok-clause-read g c = λ put.
    let code = c.args.code in
    let fine : fault_of_body code c.in_ok-body.body.items ≡ None = search rules in
    let same : c.deref-3.result.now ≡ c.in_ok-body.body.items = search rules in
    said_read Truncated _ _ c.args.len _ refl (λ b. Sets code (parts_of_body code b)) c.in_ok-body.body (fault_of_body code) _ _ tt c.in_ok-body.ensures.read
    (λ bytes e. (ap (fault_of_body code) e ∙ fine, c.in-Ok.ensures.ok ∙ ap (λ b. put_content_by put c.args.guest.now (Sets code (parts_of_body code b))) (same ∙ sym e)))

pub returns-in-Ok-clause-grown : goal.returns-in-Ok-clause-grown
returns-in-Ok-clause-grown g c =
    let alike : c.deref-2.result.now ≡ c.deref-3.result.now = search rules in
    let size : length c.deref-3.result.now ≡ c.args.len = search rules in
    grows_sets c.args.code c.args.guest.now c.set_parts.new.guest c.deref-3.result.now c.requires.of_kind c.requires.no_emulator (subst (HasBodyLength c.args.code) (sym size) c.requires.allowed) (search rules) (subst AreBytes alike c.are_bytes.ensures) (search rules) c.in-Ok.ensures.small c.in-Ok.ensures.ok
