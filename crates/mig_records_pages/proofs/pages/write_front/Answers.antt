use Rattle.mig_records_pages.proofs.Common.{puts_then, puts_stop}
use Rattle.mig_records_pages.proofs.pages.write_front.Goals as goal

pub returns-in_err-write_count-clause-bytes : goal.returns-in_err-write_count-clause-bytes
returns-in_err-write_count-clause-bytes g c =
    let r = c.from_residual-in_err-write_count.result in
    puts_then _ _ _ _ _ r c.in_ok-write_head.ensures.bytes (puts_stop _ _ _ _ _ _ r c.from_residual-in_err-write_count.ensures.1 c.in_err-write_count.ensures.bytes)
