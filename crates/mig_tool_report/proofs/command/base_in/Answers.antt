use Rattle.mig_tool_report.proofs.Common.{◌≡◌, sym, subst, ◌∙◌, arith, rules, IsBase, decimal_injective}
use Rattle.mig_tool_report.proofs.command.base_in.Goals as goal

pub returns-else-is_base-clause-none : goal.returns-else-is_base-clause-none
returns-else-is_base-clause-none c = λ base is range.
    let some = c.in_ok-base.ensures.some in
    let it : c.in_ok-base.base ≡ base = decimal_injective c.in_ok-base.base base some.1 (omega (arith, range.1)) (sym some.0 ∙ is) in
    let has : IsBase c.in_ok-base.base = subst IsBase (sym it) range in
    search rules
