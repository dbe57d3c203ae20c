use Rattle.mig_walk.proofs.Common.{◌≡◌, true, false, refl, sym, ◌∙◌}
use Rattle.mig_walk.proofs.SomeAnswer.{no_root, root_apart, root_there}
use Rattle.mig_walk.proofs.walk.walk.Goals as goal

pub returns-in_default : goal.returns-in_default
returns-in_default g c = λ ready. no_root (g.L.Levels.standing c.args.levels.now) c.args.vcpu c.args.address ready refl c.in_default.ensures

pub returns-then-not-is_canonical : goal.returns-then-not-is_canonical
returns-then-not-is_canonical g c = λ ready.
    root_apart (g.L.Levels.standing c.args.levels.now) c.args.vcpu c.args.address ready c.in-Some.root c.in-Some.ensures
    (λ is. let no : true ≡ false = sym (c.is_canonical.ensures.no is) ∙ c.if-not-is_canonical.true in cc)

pub returns : goal.returns
returns g c = λ ready. c.walk_from.ensures ready (root_there (g.L.Levels.standing c.args.levels.now) c.args.vcpu c.args.address ready c.in-Some.root c.in-Some.ensures)
