use Rattle.mig_libxl.proofs.Common.{puts_then, puts_stop, puts_same}
use Rattle.mig_libxl.proofs.Around.{canon_any_is}
use Rattle.mig_libxl.proofs.write.write_any.Goals as goal

pub returns-in_err-write_opening-clause-bytes : goal.returns-in_err-write_opening-clause-bytes
returns-in_err-write_opening-clause-bytes g c =
    let r = c.from_residual.result in
    puts_same _ _ _ _ r (canon_any_is c.args.guest.now) (puts_stop _ _ _ _ _ _ r c.from_residual.ensures.1 c.in_err-write_opening.ensures.bytes)

pub returns-in_err-write_canon-clause-bytes : goal.returns-in_err-write_canon-clause-bytes
returns-in_err-write_canon-clause-bytes g c =
    let r = c.from_residual-in_err-write_canon.result in
    puts_same _ _ _ _ r (canon_any_is c.args.guest.now)
    (puts_then _ _ _ _ _ r c.in_ok-write_opening.ensures.bytes (puts_stop _ _ _ _ _ _ r c.from_residual-in_err-write_canon.ensures.1 c.in_err-write_canon.ensures.bytes))
