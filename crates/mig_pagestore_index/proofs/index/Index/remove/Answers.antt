use Rattle.mig_pagestore_index.proofs.Common.{ℕ, ◌-◌, ◌<◌, refl, sym, ap, ◌∙◌, arith, Indexed, number_limit, found}
use Rattle.std.specs.FinMap as maps
use Rattle.mig_pagestore_index.proofs.Gathered.{gathered_out}
use Rattle.mig_pagestore_index.proofs.Counted.{put_out, some_left, nothing_out}
use Rattle.mig_pagestore_index.proofs.Viewed.{no_value_yet}
use Rattle.mig_pagestore_index.proofs.Room.{same_room}
use Rattle.mig_pagestore_index.proofs.index.Index.remove.Goals as goal

pub returns-then-get-eq0-clause-values : goal.returns-then-get-eq0-clause-values
returns-then-get-eq0-clause-values c =
    nothing_out c.args.self.now.values c.args.number (no_value_yet _ number_limit _ _ _ c.self.view_is c.get.result c.get.ensures (omega (arith, c.if-get-eq0.true)))

pub overflow_sub-self : goal.overflow_sub-self
overflow_sub-self c =
    let old : 0 < found c.self.inside.tree c.args.number = omega (arith, c.if-get-eq0.false, c.get.ensures) in
    omega (arith, c.self.invariant.1, some_left _ _ number_limit _ 0 c.requires c.put.ensures.set old)

pub invariant_of-self : goal.invariant_of-self
invariant_of-self c =
    let e = c.put.ensures in let inv = c.self.invariant in
    let old : 0 < found c.self.inside.tree c.args.number = omega (arith, c.if-get-eq0.false, c.get.ensures) in
    (e.sound, ap (λ (n : ℕ). n - 1) inv.1 ∙ sym (put_out _ _ number_limit _ 0 c.requires e.set refl old), same_room _ _ _ (e.kept old) inv.2)

pub returns-clause-values : goal.returns-clause-values
returns-clause-values c =
    gathered_out _ _ number_limit _ 0 c.requires c.put.ensures.set refl ∙ ap (λ (i : Indexed). maps.remove i.values c.args.number) c.self.view_is
