use Rattle.mig_restore.proofs.Common.{◌≡◌, ◌∙◌, ◌≤◌, None, length, drop, ap, sym, subst, rules, AreBytes, put_content_by, lists_of, le32, fault_of_p2m, p2m_is_spelled, refl, Truncated, grows_list, said_read}
use Rattle.mig_restore.proofs.body.take_p2m.Goals as goal

pub returns-in-Ok-clause-read : goal.returns-in-Ok-clause-read
returns-in-Ok-clause-read g c = λ put.
    let fine : fault_of_p2m c.in_ok-body.body.items ≡ None = search rules in
    let same : c.deref-3.result.now ≡ c.in_ok-body.body.items = search rules in
    said_read Truncated _ _ c.args.len _ refl lists_of c.in_ok-body.body fault_of_p2m _ _ tt c.in_ok-body.ensures.read
    (λ bytes e. (ap fault_of_p2m e ∙ fine, c.in-Ok.ensures.ok ∙ ap (λ b. put_content_by put c.args.guest.now (lists_of b)) (same ∙ sym e)))

pub returns-in-Ok-clause-grown : goal.returns-in-Ok-clause-grown
returns-in-Ok-clause-grown g c =
    let body = c.deref-3.result.now in
    let alike : c.deref-2.result.now ≡ body = search rules in
    let long : 8 ≤ length body = search rules in
    let fine : fault_of_p2m body ≡ None = search rules in
    grows_list c.args.guest.now c.read_p2m.new.guest (le32 body 4) (drop 8 body) body c.requires.kind (subst AreBytes alike c.are_bytes.ensures) ((p2m_is_spelled body long).0 fine) c.in-Ok.ensures.ok
