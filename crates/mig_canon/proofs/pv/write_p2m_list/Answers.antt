use Rattle.mig_canon.proofs.Common.{refl, puts_then, puts_stop, puts_same}
use Rattle.mig_canon.proofs.PvRecords.{p2m_text}
use Rattle.mig_canon.proofs.pv.write_p2m_list.Goals as goal

pub returns-in_err-write_head-clause-bytes : goal.returns-in_err-write_head-clause-bytes
returns-in_err-write_head-clause-bytes g c =
    let r = c.from_residual.result in puts_same _ _ _ _ r (p2m_text c.args.top _ c.args.frames.now refl) (puts_stop _ _ _ _ _ _ r c.from_residual.ensures.1 (rw c.number.ensures at c.in_err-write_head.ensures.bytes))

pub returns-in_err-write_numbers-clause-bytes : goal.returns-in_err-write_numbers-clause-bytes
returns-in_err-write_numbers-clause-bytes g c =
    let r = c.from_residual-in_err-write_numbers.result in
    puts_same _ _ _ _ r (p2m_text c.args.top _ c.args.frames.now refl)
    (puts_then _ _ _ _ _ r (rw c.number.ensures at c.in_ok-write_head.ensures.bytes) (puts_stop _ _ _ _ _ _ r c.from_residual-in_err-write_numbers.ensures.1 c.in_err-write_numbers.ensures.bytes))

pub returns-in_err-put_all-clause-bytes : goal.returns-in_err-put_all-clause-bytes
returns-in_err-put_all-clause-bytes g c =
    let r = c.from_residual-in_err-put_all.result in
    puts_same _ _ _ _ r (p2m_text c.args.top _ c.args.frames.now refl)
    (puts_then _ _ _ _ _ r (rw c.number.ensures at c.in_ok-write_head.ensures.bytes) (puts_then _ _ _ _ _ r c.in_ok-write_numbers.ensures.bytes
    (puts_stop _ _ _ _ _ _ r c.from_residual-in_err-put_all.ensures.1 c.in_err-put_all.ensures.bytes)))

pub returns-clause-bytes : goal.returns-clause-bytes
returns-clause-bytes g c =
    let r = c.write_padding.result in
    puts_same _ _ _ _ r (p2m_text c.args.top _ c.args.frames.now refl)
    (puts_then _ _ _ _ _ r (rw c.number.ensures at c.in_ok-write_head.ensures.bytes) (puts_then _ _ _ _ _ r c.in_ok-write_numbers.ensures.bytes (puts_then _ _ _ _ _ r c.in_ok-put_all.ensures.bytes c.write_padding.ensures.bytes)))
