use Rattle.mig_pagestore_index.proofs.Common.{◌≡◌, ℕ, ◌+◌, ◌<◌, ◌≤◌, sym, ap, ◌∙◌, arith, Indexed, number_limit, found, gathered}
use Rattle.std.specs.FinMap as maps
use Rattle.mig_pagestore_index.proofs.Gathered.{gathered_put, none_is_not_some}
use Rattle.mig_pagestore_index.proofs.Counted.{put_in_place, put_anew, few}
use Rattle.mig_pagestore_index.proofs.Viewed.{no_value_yet, some_spare}
use Rattle.mig_pagestore_index.proofs.Room.{same_room, one_less_room}
use Rattle.mig_pagestore_index.proofs.index.Index.put_spare.Goals as goal
use Rattle.mig_pagestore_index.proofs.index.Index.put_spare.Goals.{After-put}

pub put-requires-clause-room : goal.put-requires-clause-room
put-requires-clause-room c none =
    let some : 1 ≤ c.self.inside.spare = some_spare _ number_limit _ _ _ c.self.view_is (found c.self.inside.tree c.args.number) (omega arith) (omega (arith, none)) c.requires.room in
    let r = c.self.invariant.2 in record { near = λ _. r.near some; ways = omega (arith, some, r.ways); leaves = omega (arith, some, r.leaves) }

pub overflow_add-self : goal.overflow_add-self
overflow_add-self c = omega (arith, c.self.invariant.1, few (found c.self.inside.tree) number_limit)

pub overflow_sub-self : goal.overflow_sub-self
overflow_sub-self c = some_spare _ number_limit _ _ _ c.self.view_is c.put.result c.put.ensures.before (omega (arith, c.if-put-eq0.true)) c.requires.room

pub invariant_of-self : goal.invariant_of-self
invariant_of-self c =
    let e = c.put.ensures in let inv = c.self.invariant in
    let none : found c.self.inside.tree c.args.number ≡ 0 = omega (arith, c.if-put-eq0.true, e.before) in
    let some : 1 ≤ c.self.inside.spare = some_spare _ number_limit _ _ _ c.self.view_is c.put.result e.before (omega (arith, c.if-put-eq0.true)) c.requires.room in
    (e.sound, ap (λ (n : ℕ). n + 1) inv.1 ∙ sym (put_anew _ _ number_limit _ _ c.requires.small e.set c.requires.some none), one_less_room _ _ _ e.taken some inv.2)

pub invariant_of-self-else-put-eq0 : goal.invariant_of-self-else-put-eq0
invariant_of-self-else-put-eq0 c =
    let e = c.put.ensures in let inv = c.self.invariant in
    let old : 0 < found c.self.inside.tree c.args.number = omega (arith, c.if-put-eq0.false, e.before) in
    (e.sound, inv.1 ∙ sym (put_in_place _ _ number_limit _ _ c.requires.small e.set c.requires.some old), same_room _ _ _ (e.kept old) inv.2)

-- the map behind a call, whether the number had a value or not
put_there : (c : After-put) → gathered (found c.put.new.self) number_limit ≡ maps.insert c.args.self.now.values c.args.number c.args.value
put_there c = gathered_put _ _ number_limit _ _ c.requires.small c.put.ensures.set c.requires.some ∙ ap (λ (i : Indexed). maps.insert i.values c.args.number c.args.value) c.self.view_is

pub returns-then-put-eq0-clause-values : goal.returns-then-put-eq0-clause-values
returns-then-put-eq0-clause-values c = put_there (goal.at.returns-then-put-eq0-clause-values c).After-put

pub returns-then-put-eq0-clause-in_place : goal.returns-then-put-eq0-clause-in_place
returns-then-put-eq0-clause-in_place c some = absurd (none_is_not_some _ (no_value_yet _ number_limit _ _ _ c.self.view_is c.put.result c.put.ensures.before (omega (arith, c.if-put-eq0.true))) some)

pub returns-else-put-eq0-clause-values : goal.returns-else-put-eq0-clause-values
returns-else-put-eq0-clause-values c = put_there (goal.at.returns-else-put-eq0-clause-values c).After-put
