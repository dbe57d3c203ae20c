use Rattle.mig_machine.proofs.Common.{refl, subst, List, ℕ}
use Rattle.mig_bytes.specs.Memory.{IsListed}
use Rattle.mig_machine.specs.Failing.{FailingSeen}
use Rattle.mig_machine.proofs.failing.FailingMachine.count.Goals as goal

pub returns-then-is_listed-clause-listed : goal.returns-then-is_listed-clause-listed
returns-then-is_listed-clause-listed c =
    (λ _. subst (λ (x : FailingSeen). IsListed x.failing x.number) c.self.view_is (subst (λ (l : List ℕ). IsListed l c.self.inside.number) c.deref.ensures.value (c.is_listed.ensures.0 c.if-is_listed.true)), λ _. refl)
