use Rattle.mig_policy.proofs.Common.{◌≡◌, ◌+◌, length, sym, ap, ◌∙◌, arith, PairMap, pairs_seen, text_of_map, is_some}
use Rattle.mig_policy.proofs.PairTrees.{insert_order, insert_seen, set_new, set_old}
use Rattle.std.specs.FinMap as maps
use Rattle.mig_policy.proofs.pair_map.PairMap.set.Goals as goal

pub overflow_sub-self : goal.overflow_sub-self
overflow_sub-self c =
    let h = set_old c.self.inside.pairs.entries c.insert.new.self.entries c.in-Ok.own_key c.in-Ok-to_vec.own_value c.in-Ok-Some.old c.args.value.now c.self.inside.len
    (c.in-Ok-to_vec.ensures.items_if_clones_equal (λ x y e. e)) c.in-Ok-Some.ensures.entries c.self.invariant.0 c.self.invariant.1
    (sym c.in-Ok-Some.ensures.old ∙ c.in-Ok-Some.field-0-is) (c.in-Ok-Some.ensures.keys_stay (ap is_some c.in-Ok-Some.field-0-is)) in
    let less = h.0 in omega (arith, less, c.len.ensures, c.in-Ok-Some.old.ok.0)

of_old : (c : goal.After-drop-old) → c.self.inside.len + length c.args.value.now ≡ length (text_of_map (pairs_seen c.insert.new.self.entries)) + length c.in-Ok-Some.old.items
of_old c =
    (set_old c.self.inside.pairs.entries c.insert.new.self.entries c.in-Ok.own_key c.in-Ok-to_vec.own_value c.in-Ok-Some.old c.args.value.now c.self.inside.len
    (c.in-Ok-to_vec.ensures.items_if_clones_equal (λ x y e. e)) c.in-Ok-Some.ensures.entries c.self.invariant.0 c.self.invariant.1
    (sym c.in-Ok-Some.ensures.old ∙ c.in-Ok-Some.field-0-is) (c.in-Ok-Some.ensures.keys_stay (ap is_some c.in-Ok-Some.field-0-is))).1

pub invariant_of-self : goal.invariant_of-self
invariant_of-self c = (
  insert_order c.self.inside.pairs.entries c.insert.new.self.entries c.in-Ok.own_key c.in-Ok-to_vec.own_value c.in-Ok-Some.ensures.entries c.self.invariant.0,
  omega (arith, of_old c, c.len.ensures, c.in-Ok-Some.old.ok.0),
)

pub returns-in-Ok-Some-clause-ok : goal.returns-in-Ok-Some-clause-ok
returns-in-Ok-Some-clause-ok c =
    insert_seen c.self.inside.pairs.entries c.insert.new.self.entries c.in-Ok.own_key c.in-Ok-to_vec.own_value c.args.key.now c.args.value.now
    (c.in-Ok.ensures.items_if_clones_equal (λ x y e. e)) (c.in-Ok-to_vec.ensures.items_if_clones_equal (λ x y e. e)) c.in-Ok-Some.ensures.entries c.self.invariant.0
    ∙ ap (λ (m : PairMap). maps.insert m c.args.key.now c.args.value.now) c.self.view_is

pub returns-in-Ok-Some-clause-longer : goal.returns-in-Ok-Some-clause-longer
returns-in-Ok-Some-clause-longer c =
    let h = of_old c in let n = c.self.invariant.1 in let same = ap (λ (m : PairMap). length (text_of_map m)) c.self.view_is in omega (arith, h, n, same)

of_new : (c : goal.After-self-in-Ok-None-1) → c.self.inside.len + (length c.args.key.now + length c.args.value.now + 2) ≡ length (text_of_map (pairs_seen c.insert.new.self.entries))
of_new c =
    set_new c.self.inside.pairs.entries c.insert.new.self.entries c.in-Ok.own_key c.in-Ok-to_vec.own_value c.args.key.now c.args.value.now c.self.inside.len
    (c.in-Ok.ensures.items_if_clones_equal (λ x y e. e)) (c.in-Ok-to_vec.ensures.items_if_clones_equal (λ x y e. e)) c.in-Ok-None.ensures.entries c.self.invariant.0 c.self.invariant.1
    (sym c.in-Ok-None.ensures.old ∙ c.in-Ok-None.field-0-is)

pub invariant_of-self-in-Ok-None : goal.invariant_of-self-in-Ok-None
invariant_of-self-in-Ok-None c = (insert_order c.self.inside.pairs.entries c.insert.new.self.entries c.in-Ok.own_key c.in-Ok-to_vec.own_value c.in-Ok-None.ensures.entries c.self.invariant.0, of_new c)

pub returns-in-Ok-None-clause-ok : goal.returns-in-Ok-None-clause-ok
returns-in-Ok-None-clause-ok c =
    insert_seen c.self.inside.pairs.entries c.insert.new.self.entries c.in-Ok.own_key c.in-Ok-to_vec.own_value c.args.key.now c.args.value.now
    (c.in-Ok.ensures.items_if_clones_equal (λ x y e. e)) (c.in-Ok-to_vec.ensures.items_if_clones_equal (λ x y e. e)) c.in-Ok-None.ensures.entries c.self.invariant.0
    ∙ ap (λ (m : PairMap). maps.insert m c.args.key.now c.args.value.now) c.self.view_is

pub returns-in-Ok-None-clause-longer : goal.returns-in-Ok-None-clause-longer
returns-in-Ok-None-clause-longer c =
    let h = of_new c in let n = c.self.invariant.1 in let same = ap (λ (m : PairMap). length (text_of_map m)) c.self.view_is in omega (arith, h, n, same)
