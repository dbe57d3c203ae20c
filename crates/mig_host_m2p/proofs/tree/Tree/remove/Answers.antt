use Rattle.std.specs.FinMap as maps
use Rattle.mig_host_m2p.proofs.Common.{◌≡◌, IsSome, None, ap, ◌∙◌, kept, rules, nothing_out}
use Rattle.mig_host_m2p.proofs.Standing.{found_there, some_begun, some_small, found_some}
use Rattle.mig_host_m2p.proofs.tree.Tree.remove.Goals as goal

pub returns-then-is_none-clause-kept : goal.returns-then-is_none-clause-kept
returns-then-is_none-clause-kept c =
    let none : maps.get (kept c.args.self.now) c.args.machine ≡ None = search rules in nothing_out (kept c.args.self.now) c.args.machine none

some : goal.lift-requires-clause-some
some c =
    let x = c.args.self.now in let there : IsSome (maps.get (kept x) c.args.machine) = search rules in
    found_some x.cells.items x.free.items x.spare c.requires c.seek-at.result c.args.machine 0 c.seek-at.ensures.used
    (found_there x.cells.items x.free.items x.spare c.requires c.args.machine c.seek-at.result there c.seek-at.ensures.none)
    (some_small x.cells.items x.free.items x.spare c.requires c.args.machine there)

pub seek-at-requires-clause-begun : goal.seek-at-requires-clause-begun
seek-at-requires-clause-begun c =
    let x = c.args.self.now in let there : IsSome (maps.get (kept x) c.args.machine) = search rules in some_begun x.cells.items x.free.items x.spare c.requires c.args.machine there

pub lift-requires-clause-some : goal.lift-requires-clause-some
lift-requires-clause-some = some

pub lift-requires-clause-leaf : goal.lift-requires-clause-leaf
lift-requires-clause-leaf c = c.leaf_below-leaf.ensures.there (some c)

pub returns-clause-kept : goal.returns-clause-kept
returns-clause-kept c =
    let x = c.args.self.now in let there : IsSome (maps.get (kept x) c.args.machine) = search rules in
    c.lift.ensures.kept ∙ ap (maps.remove (kept x)) (found_there x.cells.items x.free.items x.spare c.requires c.args.machine c.seek-at.result there c.seek-at.ensures.none)
