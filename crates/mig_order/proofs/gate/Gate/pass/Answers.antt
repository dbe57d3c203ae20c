use Rattle.std.proofs.Common.{sym, ap, ◌∙◌}
use Rattle.mig_headers.proofs.RecordNumbers.{numbers_are_inverse}
use Rattle.mig_order.specs.Gate.{then_type}
use Rattle.mig_order.proofs.gate.Gate.pass.Goals as goal

-- by the law of numbers, so that one more type costs nothing here
pub returns-in-Some : goal.returns-in-Some
returns-in-Some c =
    c.pass_known.ensures ∙ ap (λ n. record { version = c.args.self.now.version; kind = c.args.self.now.kind; earlier = then_type c.args.self.now.earlier n })
    (numbers_are_inverse.number_of c.args.number c.in-Some.this (sym c.from_number.ensures.value ∙ c.in-Some.is))
