use Rattle.mig_machine_script.proofs.Common.{◌≡◌, Ok, Err, sym, ap, ◌∙◌, rules, decimal, parse-decimal}
use Rattle.mig_machine_script.proofs.FieldsSaid.{apart, same}
use Rattle.mig_machine_script.proofs.fields.number_of_text.Goals as goal

pub returns-in_default-clause-none : goal.returns-in_default-clause-none
returns-in_default-clause-none c = λ n is. apart _ n (parse-decimal 64 n c.args.text.now (Err c.in_default.field-0) is.small is.small is.digits (search rules))

pub returns-then-not-is_same-clause-none : goal.returns-then-not-is_same-clause-none
returns-then-not-is_same-clause-none c = λ n is.
    let it : c.in-Ok.n ≡ n = same {E = Unit {0}} _ n (parse-decimal 64 n c.args.text.now (Ok c.in-Ok.n) is.small is.small is.digits c.in-Ok.ensures.value.0) in
    let spelled : c.args.text.now ≡ decimal c.in-Ok.n = is.digits ∙ ap decimal (sym it) in
    search rules
