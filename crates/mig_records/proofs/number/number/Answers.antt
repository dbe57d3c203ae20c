use Rattle.mig_records.proofs.Common.{◌<◌, ◌^◌, sym, subst, arith, little_from-lt}
use Rattle.mig_records.proofs.number.number.Goals as goal

pub returns-clause-fits : goal.returns-clause-fits
returns-clause-fits c = subst (λ n. n < 256 ^ c.args.width) (sym c.read_uint.ensures) (little_from-lt 0 c.args.width c.args.bytes.now (λ k. omega (arith, c.type_inv.bytes k)))
