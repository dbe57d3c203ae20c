use Rattle.mig_machine_script.proofs.Common.{[], ◌∷◌, ℕ, option_copied, fields_left, AreNumbers}
use Rattle.mig_machine_script.proofs.FieldsSaid.{if_none}
use Rattle.mig_machine_script.proofs.line.two.Goals as goal

pub returns-in_err-n-clause-none : goal.returns-in_err-n-clause-none
returns-in_err-n-clause-none c =
    let none : (n m : ℕ) → AreNumbers (fields_left (option_copied c.args.rest)) (n ∷ m ∷ []) [] → ⊥ = λ n m h. c.in_err-n.ensures.none n (m ∷ []) [] h in
    if_none _ none
