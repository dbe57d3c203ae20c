use Rattle.mig_records.proofs.Common.{◌+◌, drop, arith, IsSmallKey, key_in}
use Rattle.mig_records.proofs.Reading.{narrow, small_name, named_all}
use Rattle.mig_records.proofs.read.read_named.Goals as goal

pub overflow_cast-key-2 : goal.overflow_cast-key-2
overflow_cast-key-2 c = let h = narrow c.args.second _ c.requires.second c.number-3.ensures.fits in omega (arith, h)

pub returns-clause-small : goal.returns-clause-small
returns-clause-small c =
    named_all (λ p. IsSmallKey p.0) c.args.skips (key_in c.args.code 4 c.args.second c.args.body.now) (drop (4 + c.args.second + c.args.ignored) c.args.body.now)
    (small_name c.args.code c.args.second c.requires.second c.args.body.now (λ k. omega (arith, c.type_inv.body k)))
