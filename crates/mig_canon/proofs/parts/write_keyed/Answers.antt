use Rattle.mig_canon.proofs.Common.{puts_then, puts_stop, puts_same}
use Rattle.mig_canon.proofs.Spelling.{keyed_text}
use Rattle.mig_canon.proofs.parts.write_keyed.Goals as goal

pub returns-in_err-write_zeros-clause-bytes : goal.returns-in_err-write_zeros-clause-bytes
returns-in_err-write_zeros-clause-bytes g c =
    let r = c.from_residual-in_err-write_zeros.result in
    puts_same _ _ _ _ r (keyed_text c.args.first c.args.second c.args.ignored c.args.key.key1 c.args.key.key2 c.args.value.now)
    (puts_then _ _ _ _ _ r c.in_ok-write_numbers.ensures.bytes (puts_stop _ _ _ _ _ _ r c.from_residual-in_err-write_zeros.ensures.1 c.in_err-write_zeros.ensures.bytes))
