use Rattle.mig_tool_report.proofs.Common.{◌≡◌, sym, ◌∙◌, arith, decimal_injective}
use Rattle.mig_tool_report.proofs.command.vcpu_in.Goals as goal

pub returns-else-id-from-clause-none : goal.returns-else-id-from-clause-none
returns-else-id-from-clause-none c = λ id is small.
    let some = c.in_ok-id.ensures.some in
    let it : c.in_ok-id.id ≡ id = decimal_injective c.in_ok-id.id id some.1 (omega (arith, small)) (sym some.0 ∙ is) in
    omega (arith, it, small, c.from.ensures, c.if-id-from.false)
