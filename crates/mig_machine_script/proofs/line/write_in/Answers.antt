use Rattle.mig_machine_script.proofs.Common.{[], ◌∷◌, rules, option_copied, fields_left}
use Rattle.mig_machine_script.proofs.FieldsSaid.{at_none, behind_one, no_write}
use Rattle.mig_machine_script.proofs.line.write_in.Goals as goal

pub returns-in_default-clause-none : goal.returns-in_default-clause-none
returns-in_default-clause-none c = no_write (fields_left (option_copied c.args.rest)) (λ p a hex bytes h k. c.in_default.ensures.none p (a ∷ []) (hex ∷ []) h)

pub returns-in_default-number-clause-none : goal.returns-in_default-number-clause-none
returns-in_default-number-clause-none c = no_write (fields_left (option_copied c.args.rest)) (λ p a hex bytes h k.
    c.in_default-number.ensures.none a [] (hex ∷ [])
    (behind_one (fields_left (option_copied c.args.rest)) (fields_left (option_copied c.in-Some.behind)) (hex ∷ []) c.in-Some.pfn p (a ∷ []) c.in-Some.ensures.some h))

pub returns-in_default-2-clause-none : goal.returns-in_default-2-clause-none
returns-in_default-2-clause-none c = no_write (fields_left (option_copied c.args.rest)) (λ p a hex bytes h k.
    let second = behind_one (fields_left (option_copied c.args.rest)) (fields_left (option_copied c.in-Some.behind)) (hex ∷ []) c.in-Some.pfn p (a ∷ []) c.in-Some.ensures.some h in
    let third = behind_one (fields_left (option_copied c.in-Some.behind)) (fields_left (option_copied c.in-Some-number.last)) (hex ∷ []) c.in-Some-number.at a [] c.in-Some-number.ensures.some second in
    at_none c.in_ok-bytes.field-0 (search rules) c.in_ok-bytes.ensures.none hex bytes third k)
