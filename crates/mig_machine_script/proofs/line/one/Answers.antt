use Rattle.mig_machine_script.proofs.Common.{◌∷◌, [], ℕ, rules, option_copied, fields_left, AreNumbers}
use Rattle.mig_machine_script.proofs.FieldsSaid.{if_none, no_more, behind_one}
use Rattle.mig_machine_script.proofs.line.one.Goals as goal

pub returns-in_err-n-clause-none : goal.returns-in_err-n-clause-none
returns-in_err-n-clause-none c =
    let none : (n : ℕ) → AreNumbers (fields_left (option_copied c.args.rest)) (n ∷ []) [] → ⊥ = λ n h. c.in_err-n.ensures.none n [] [] h in
    if_none _ none

pub returns-then-is_some-clause-none : goal.returns-then-is_some-clause-none
returns-then-is_some-clause-none c = λ n h.
    no_more c.in_ok-n.behind (search rules)
    (behind_one (fields_left (option_copied c.args.rest)) (fields_left (option_copied c.in_ok-n.behind)) [] c.in_ok-n.n n [] c.in_ok-n.ensures.some h)
