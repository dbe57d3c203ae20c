use Rattle.mig_machine_script.proofs.Common.{[], ◌∷◌, rules, option_copied, fields_left}
use Rattle.mig_machine_script.proofs.FieldsSaid.{at_none, behind_one, no_put}
use Rattle.mig_machine_script.proofs.line.put_in.Goals as goal

pub returns-in_default-clause-none : goal.returns-in_default-clause-none
returns-in_default-clause-none c = no_put (fields_left (option_copied c.args.rest)) (λ p a b hex bytes h k. c.in_default.ensures.none p (a ∷ b ∷ []) (hex ∷ []) h)

pub returns-in_default-number-clause-none : goal.returns-in_default-number-clause-none
returns-in_default-number-clause-none c = no_put (fields_left (option_copied c.args.rest)) (λ p a b hex bytes h k.
    c.in_default-number.ensures.none a (b ∷ []) (hex ∷ [])
    (behind_one (fields_left (option_copied c.args.rest)) (fields_left (option_copied c.in-Some.behind)) (hex ∷ []) c.in-Some.code p (a ∷ b ∷ []) c.in-Some.ensures.some h))

pub returns-in_default-number-2-clause-none : goal.returns-in_default-number-2-clause-none
returns-in_default-number-2-clause-none c = no_put (fields_left (option_copied c.args.rest)) (λ p a b hex bytes h k.
    let second = behind_one (fields_left (option_copied c.args.rest)) (fields_left (option_copied c.in-Some.behind)) (hex ∷ []) c.in-Some.code p (a ∷ b ∷ []) c.in-Some.ensures.some h in
    c.in_default-number-2.ensures.none b [] (hex ∷ [])
    (behind_one (fields_left (option_copied c.in-Some.behind)) (fields_left (option_copied c.in-Some-number.others)) (hex ∷ []) c.in-Some-number.first a (b ∷ []) c.in-Some-number.ensures.some second))

pub returns-in_default-2-clause-none : goal.returns-in_default-2-clause-none
returns-in_default-2-clause-none c = no_put (fields_left (option_copied c.args.rest)) (λ p a b hex bytes h k.
    let second = behind_one (fields_left (option_copied c.args.rest)) (fields_left (option_copied c.in-Some.behind)) (hex ∷ []) c.in-Some.code p (a ∷ b ∷ []) c.in-Some.ensures.some h in
    let third = behind_one (fields_left (option_copied c.in-Some.behind)) (fields_left (option_copied c.in-Some-number.others)) (hex ∷ []) c.in-Some-number.first a (b ∷ []) c.in-Some-number.ensures.some second in
    let last = behind_one (fields_left (option_copied c.in-Some-number.others)) (fields_left (option_copied c.in-Some-number-2.last)) (hex ∷ []) c.in-Some-number-2.second b [] c.in-Some-number-2.ensures.some third in
    at_none c.in_ok-bytes.field-0 (search rules) c.in_ok-bytes.ensures.none hex bytes last k)
