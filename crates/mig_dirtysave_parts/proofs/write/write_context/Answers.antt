use Rattle.mig_dirtysave_parts.proofs.Common.{refl, puts_then, puts_stop, puts_same, single_text}
use Rattle.mig_dirtysave_parts.proofs.write.write_context.Goals as goal

pub returns-in_err-write_head-clause-bytes : goal.returns-in_err-write_head-clause-bytes
returns-in_err-write_head-clause-bytes g c =
    let r = c.from_residual.result in puts_same _ _ _ _ r (single_text 9 _ 8 c.args.front.now refl) (puts_stop _ _ _ _ _ _ r c.from_residual.ensures.1 c.in_err-write_head.ensures.bytes)

pub returns-in_err-put_all-clause-bytes : goal.returns-in_err-put_all-clause-bytes
returns-in_err-put_all-clause-bytes g c =
    let r = c.from_residual-in_err-put_all.result in puts_same _ _ _ _ r (single_text 9 _ 8 c.args.front.now refl) (puts_then _ _ _ _ _ r c.in_ok-write_head.ensures.bytes (puts_stop _ _ _ _ _ _ r c.from_residual-in_err-put_all.ensures.1 c.in_err-put_all.ensures.bytes))

pub returns-in_err-put_all-2-clause-bytes : goal.returns-in_err-put_all-2-clause-bytes
returns-in_err-put_all-2-clause-bytes g c =
    let r = c.from_residual-in_err-put_all-2.result in puts_same _ _ _ _ r (single_text 9 _ 8 c.args.front.now refl) (puts_then _ _ _ _ _ r c.in_ok-write_head.ensures.bytes (puts_then _ _ _ _ _ r c.in_ok-put_all.ensures.bytes (puts_stop _ _ _ _ _ _ r c.from_residual-in_err-put_all-2.ensures.1 c.in_err-put_all-2.ensures.bytes)))

pub returns-clause-bytes : goal.returns-clause-bytes
returns-clause-bytes g c =
    let r = c.write_padding.result in puts_same _ _ _ _ r (single_text 9 _ 8 c.args.front.now refl) (puts_then _ _ _ _ _ r c.in_ok-write_head.ensures.bytes (puts_then _ _ _ _ _ r c.in_ok-put_all.ensures.bytes (puts_then _ _ _ _ _ r c.in_ok-put_all-2.ensures.bytes c.write_padding.ensures.bytes)))
