use Rattle.mig_restore.proofs.Common.{◌≡◌, true, refl, rules, judged_so, Nothing, Truncated, body_at, put_frames, plain_at}
use Rattle.mig_headers.specs.RecordTypes.{is_optional}
use Rattle.mig_restore.proofs.Fronts.{front_plain}
use Rattle.mig_restore.proofs.Noted.{optional_stays, still}
use Rattle.mig_restore.proofs.body.take_body.Goals as goal

pub returns-then-is_optional-clause-noted : goal.returns-then-is_optional-clause-noted
returns-then-is_optional-clause-noted g c =
    let kind = c.args.guest.now.kind in let top = c.args.guest.now.top in let type = c.args.head.kind in let len = c.args.head.len in
    let optional : is_optional type ≡ true = search rules in
    judged_so _ _ _ (plain_at Truncated (λ _. Nothing) len) (body_at kind top type len) _ (λ i. rw optional refl)
    (still g.F.KeepsFrames.notes c.goes_on.ensures.read_on _ c.args.keeper.now _ _ (plain_at Truncated (λ _. Nothing) len) (put_frames kind) _ (front_plain Truncated (λ _. Nothing) len)
    (λ i rest said judged frames. optional_stays kind top len frames i rest said judged) c.skip_body.ensures.read)
