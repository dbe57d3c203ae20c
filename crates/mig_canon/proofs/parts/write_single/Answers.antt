use Rattle.mig_canon.proofs.Common.{puts_then, puts_stop, puts_same, refl}
use Rattle.mig_canon.proofs.Spelling.{single_text}
use Rattle.mig_canon.proofs.parts.write_single.Goals as goal

pub returns-in_err-write_head-clause-bytes : goal.returns-in_err-write_head-clause-bytes
returns-in_err-write_head-clause-bytes g c =
    let r = c.from_residual.result in puts_same _ _ _ _ r (single_text c.args.number _ c.args.ignored c.args.value.now refl) (puts_stop _ _ _ _ _ _ r c.from_residual.ensures.1 c.in_err-write_head.ensures.bytes)

pub returns-in_err-put_all-clause-bytes : goal.returns-in_err-put_all-clause-bytes
returns-in_err-put_all-clause-bytes g c =
    let r = c.from_residual-in_err-put_all.result in puts_same _ _ _ _ r (single_text c.args.number _ c.args.ignored c.args.value.now refl) (puts_then _ _ _ _ _ r c.in_ok-write_head.ensures.bytes (puts_stop _ _ _ _ _ _ r c.from_residual-in_err-put_all.ensures.1 c.in_err-put_all.ensures.bytes))

pub returns-in_err-write_zeros-clause-bytes : goal.returns-in_err-write_zeros-clause-bytes
returns-in_err-write_zeros-clause-bytes g c =
    let r = c.from_residual-in_err-write_zeros.result in puts_same _ _ _ _ r (single_text c.args.number _ c.args.ignored c.args.value.now refl) (puts_then _ _ _ _ _ r c.in_ok-write_head.ensures.bytes (puts_then _ _ _ _ _ r c.in_ok-put_all.ensures.bytes (puts_stop _ _ _ _ _ _ r c.from_residual-in_err-write_zeros.ensures.1 c.in_err-write_zeros.ensures.bytes)))

pub returns-clause-bytes : goal.returns-clause-bytes
returns-clause-bytes g c =
    let r = c.write_padding.result in puts_same _ _ _ _ r (single_text c.args.number _ c.args.ignored c.args.value.now refl) (puts_then _ _ _ _ _ r c.in_ok-write_head.ensures.bytes (puts_then _ _ _ _ _ r c.in_ok-put_all.ensures.bytes (puts_then _ _ _ _ _ r c.in_ok-write_zeros.ensures.bytes (c.write_padding.ensures.bytes))))
