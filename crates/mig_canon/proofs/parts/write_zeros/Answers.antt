use Rattle.mig_canon.proofs.Common.{puts_then, puts_stop, puts_same}
use Rattle.mig_canon.proofs.Spelling.{zeros_split}
use Rattle.mig_canon.proofs.parts.write_zeros.Goals as goal

pub returns-in_err-put_all-clause-bytes : goal.returns-in_err-put_all-clause-bytes
returns-in_err-put_all-clause-bytes g c =
    let r = c.from_residual.result in
    puts_same _ _ _ _ r (zeros_split c.loop-i.i c.args.count c.loop-i-test.true) (puts_then _ _ _ _ _ r c.loop-i.invariant.bytes (puts_stop _ _ _ _ _ _ r c.from_residual.ensures.1 c.in_err-put_all.ensures.bytes))
