use Rattle.mig_dirtysave_parts.proofs.Common.{puts_then, puts_stop, puts_same}
use Rattle.mig_dirtysave_parts.proofs.Texts.{before_text}
use Rattle.mig_dirtysave_parts.proofs.write.write_before.Goals as goal

pub returns-in_err-write_headers-clause-bytes : goal.returns-in_err-write_headers-clause-bytes
returns-in_err-write_headers-clause-bytes g c =
    let r = c.from_residual.result in
    puts_same _ _ _ _ r (before_text c.args.early.now c.kind.result c.kind.ensures) (puts_stop _ _ _ _ _ _ r c.from_residual.ensures.1 c.in_err-write_headers.ensures.bytes)

pub returns-in_err-write_info-clause-bytes : goal.returns-in_err-write_info-clause-bytes
returns-in_err-write_info-clause-bytes g c =
    let r = c.from_residual-in_err-write_info.result in
    puts_same _ _ _ _ r (before_text c.args.early.now c.kind.result c.kind.ensures)
    (puts_then _ _ _ _ _ r c.in_ok-write_headers.ensures.bytes (puts_stop _ _ _ _ _ _ r c.from_residual-in_err-write_info.ensures.1 c.in_err-write_info.ensures.bytes))

pub returns-in_err-write_static-clause-bytes : goal.returns-in_err-write_static-clause-bytes
returns-in_err-write_static-clause-bytes g c =
    let r = c.from_residual-in_err-write_static.result in
    puts_same _ _ _ _ r (before_text c.args.early.now c.kind.result c.kind.ensures)
    (puts_then _ _ _ _ _ r c.in_ok-write_headers.ensures.bytes (puts_then _ _ _ _ _ r c.in_ok-write_info.ensures.bytes (puts_stop _ _ _ _ _ _ r c.from_residual-in_err-write_static.ensures.1 c.in_err-write_static.ensures.bytes)))

pub returns-clause-bytes : goal.returns-clause-bytes
returns-clause-bytes g c =
    let r = c.write_p2m_frames.result in
    puts_same _ _ _ _ r (before_text c.args.early.now c.kind.result c.kind.ensures)
    (puts_then _ _ _ _ _ r c.in_ok-write_headers.ensures.bytes (puts_then _ _ _ _ _ r c.in_ok-write_info.ensures.bytes (puts_then _ _ _ _ _ r c.in_ok-write_static.ensures.bytes c.write_p2m_frames.ensures.bytes)))
