use Rattle.mig_machine_script.proofs.Common.{◌≡◌, ◌∷◌, [], List, ℕ, length, drop, get_or, sym, ap, ◌∙◌, arith, rules, option_copied, fields_left}
use Rattle.mig_machine_script.proofs.FieldsSaid.{no_more}
use Rattle.mig_machine_script.proofs.fields.bytes_in.Goals.{then-is_some-via-then-is_some, then-is_some-via-else-is_some+then-field-lt2}
use Rattle.mig_machine_script.proofs.fields.bytes_in.Goals as goal

pub returns-then-is_some-clause-none : goal.returns-then-is_some-clause-none
returns-then-is_some-clause-none c = λ hex bytes e k.
    let first : c.first_field.result.0.now ∷ fields_left (option_copied c.first_field.result.1) ≡ hex ∷ [] = sym c.first_field.ensures ∙ sym (ap (λ r. fields_left (option_copied r)) c.in-Some.is) ∙ e in
    let last : fields_left (option_copied c.first_field.result.1) ≡ [] = ap (λ (l : List (List ℕ)). drop 1 l) first in
    let one : c.first_field.result.0.now ≡ hex = ap (λ (l : List (List ℕ)). get_or l 0 []) first in
    let long = k.some in
    elim c.then-is_some.branch [
      | then-is_some-via-then-is_some w ↦ no_more c.first_field.result.1 (search rules) last
      | then-is_some-via-else-is_some+then-field-lt2 w ↦ let same = ap length one in omega (arith, same, long)
    ]
