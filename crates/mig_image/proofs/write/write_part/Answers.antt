use Rattle.mig_image.proofs.Common.{sym, arith, take-replicate, puts_then, puts_stop, puts_same}
use Rattle.mig_image.proofs.write.write_part.Goals as goal

pub returns-in_err-put_all-2-clause-bytes : goal.returns-in_err-put_all-2-clause-bytes
returns-in_err-put_all-2-clause-bytes g c =
    let r = c.from_residual-in_err-put_all-2.result in
    puts_then _ _ _ _ _ r (rw c.part_head.ensures at c.in_ok-put_all.ensures.bytes)
    (puts_stop _ _ _ _ _ _ r c.from_residual-in_err-put_all-2.ensures.1 c.in_err-put_all-2.ensures.bytes)

pub returns-clause-bytes : goal.returns-clause-bytes
returns-clause-bytes g c =
    let r = c.put_all-3.result in
    puts_then _ _ _ _ _ r (rw c.part_head.ensures at c.in_ok-put_all.ensures.bytes)
    (puts_then _ _ _ _ _ r c.in_ok-put_all-2.ensures.bytes
    (puts_same _ _ _ _ r (sym (take-replicate _ 8 0 (omega arith))) (rw c.pad_len.ensures.value at c.put_all-3.ensures.bytes)))
