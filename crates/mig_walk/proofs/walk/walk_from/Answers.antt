use Rattle.mig_walk.proofs.Common.{◌≡◌, ℕ, ◌-◌, Option, Some, None, IsSome, subst, ◌∙◌, arith, IsReached, PageType}
use Rattle.mig_walk.proofs.Steps.{ends_at_other, ends_absent, ends_at_frame, goes_down}
use Rattle.mig_walk.proofs.walk.walk_from.Goals as goal

typed_none : (o : Option PageType) → None ≡ o → IsSome o → ⊥
typed_none None none some = cc
typed_none (Some type) none some = cc

pub returns-in_default-entry_of : goal.returns-in_default-entry_of
returns-in_default-entry_of g c = λ ready from.
    let names : (g.L.Levels.standing c.args.levels.now).names c.loop-level.number ≡ Some c.in-Some.pfn = cc in
    ends_at_other ready c.requires.canonical c.loop-level.level c.loop-level.number c.in-Some.pfn c.loop-level-test.true c.loop-level.invariant.most (c.loop-level.invariant.reached ready from) names c.in_default-entry_of.ensures.other

pub returns-in_default-entry : goal.returns-in_default-entry
returns-in_default-entry g c = λ ready from.
    let names : (g.L.Levels.standing c.args.levels.now).names c.loop-level.number ≡ Some c.in-Some.pfn = cc in
    ends_absent ready c.requires.canonical c.loop-level.level c.loop-level.number c.in-Some.pfn c.in-Some-entry_of.entry (c.loop-level.invariant.reached ready from) names c.in-Some-entry_of.ensures.table
    (subst (λ (slot : ℕ). (g.L.Levels.standing c.args.levels.now).says c.in-Some.pfn slot ≡ c.in-Some-entry_of.entry) c.slot.ensures.value c.in-Some-entry_of.ensures.said) c.in_default-entry.not-Frame

pub loop-level-preserved : goal.loop-level-preserved
loop-level-preserved g c =
    let names : (g.L.Levels.standing c.args.levels.now).names c.loop-level.number ≡ Some c.in-Some.pfn = cc in record {
      most = omega (arith, c.loop-level.invariant.most);
      reached = λ ready from.
          goes_down ready c.loop-level.level (c.loop-level.level - 1) c.loop-level.number c.in-Some.pfn c.in-Frame.named (omega (arith, c.loop-level-test.true)) c.loop-level.invariant.most (c.loop-level.invariant.reached ready from) names c.in-Some-entry_of.ensures.table
          (subst (λ (slot : ℕ). (g.L.Levels.standing c.args.levels.now).says c.in-Some.pfn slot ≡ c.in-Some-entry_of.entry) c.slot.ensures.value c.in-Some-entry_of.ensures.said ∙ c.in-Frame.is);
    }

pub returns-in-Some-kind_of : goal.returns-in-Some-kind_of
returns-in-Some-kind_of g c = λ ready from.
    let names : (g.L.Levels.standing c.args.levels.now).names c.loop-level.number ≡ Some c.in-Some-named.pfn = cc in
    let has : (g.L.Levels.standing c.args.levels.now).types c.in-Some-named.pfn ≡ Some c.in-Some-kind_of.kind = cc in
    let last : c.loop-level.level ≡ 0 = omega (arith, c.loop-level-test.false) in
    ends_at_frame ready c.requires.canonical c.loop-level.number c.in-Some-named.pfn c.in-Some-kind_of.kind
    (subst (λ (level : ℕ). IsReached (g.L.Levels.standing c.args.levels.now) c.args.vcpu c.args.address level c.loop-level.number) last (c.loop-level.invariant.reached ready from)) names has

pub returns-in-None : goal.returns-in-None
returns-in-None g c = λ ready from.
    let names : (g.L.Levels.standing c.args.levels.now).names c.loop-level.number ≡ Some c.in-Some-named.pfn = cc in
    absurd (typed_none ((g.L.Levels.standing c.args.levels.now).types c.in-Some-named.pfn) c.in-None.ensures (ready.typed c.loop-level.number c.in-Some-named.pfn names))
