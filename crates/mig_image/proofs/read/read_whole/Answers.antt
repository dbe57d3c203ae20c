use Rattle.mig_image.proofs.Common.{List, ℕ, Option, Result, Ok, Err, OnOk, TakesBytes, takes_more, Head, IsHost, behind_head, placed_form, host_head_form, guest_image_form, first_stops, placed_read, placed_stop, told_then, refl, ◌≡◌}
use Rattle.mig_image.proofs.read.read_whole.Goals as goal

-- what was taken, and then more
onward : {X E : Type 0} (r : Result X E) (a b c : Option (List ℕ)) → TakesBytes a b → OnOk r (TakesBytes b c) → OnOk r (TakesBytes a c)
onward (Ok x) a b c first more = takes_more a b c first more
onward (Err e) a b c first more = tt

pub returns-in-Err-clause-read : goal.returns-in-Err-clause-read
unfolding guest_image_form
returns-in-Err-clause-read g c =
    first_stops (λ v head. head ≡ v) IsHost (placed_form Head (host_head_form c.args.widest)) behind_head _ _ c.at.result _ refl (placed_stop (λ v head. head ≡ v) Head (host_head_form c.args.widest) _ _ c.in-Err.stop c.at.result c.at.ensures c.in-Err.ensures.read)

pub returns-clause-read : goal.returns-clause-read
unfolding guest_image_form
returns-clause-read g c =
    told_then (λ v. v) IsHost (placed_form Head (host_head_form c.args.widest)) behind_head _ _ _ _ c.read_behind.result (placed_read (λ v head. head ≡ v) Head (host_head_form c.args.widest) _ _ _ c.in-Ok.ensures.read) c.read_behind.ensures.read

pub returns-clause-taken : goal.returns-clause-taken
returns-clause-taken g c = onward c.read_behind.result _ _ _ c.in-Ok.ensures.taken c.read_behind.ensures.taken
