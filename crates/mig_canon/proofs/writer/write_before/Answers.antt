use Rattle.mig_canon.proofs.Common.{puts_then, puts_stop}
use Rattle.mig_canon.specs.Elsewhere.{before_the_frames}
use Rattle.mig_canon.proofs.writer.write_before.Goals as goal

pub returns-in_err-write_opening-clause-bytes : goal.returns-in_err-write_opening-clause-bytes
unfolding before_the_frames
returns-in_err-write_opening-clause-bytes g c =
    let r = c.from_residual.result in puts_stop _ _ _ _ _ _ r c.from_residual.ensures.1 c.in_err-write_opening.ensures.bytes

pub returns-in_err-write_info-clause-bytes : goal.returns-in_err-write_info-clause-bytes
unfolding before_the_frames
returns-in_err-write_info-clause-bytes g c =
    let r = c.from_residual-in_err-write_info.result in
    puts_then _ _ _ _ _ r c.in_ok-write_opening.ensures.bytes (puts_stop _ _ _ _ _ _ r c.from_residual-in_err-write_info.ensures.1 c.in_err-write_info.ensures.bytes)

pub returns-in_err-write_static-clause-bytes : goal.returns-in_err-write_static-clause-bytes
unfolding before_the_frames
returns-in_err-write_static-clause-bytes g c =
    let r = c.from_residual-in_err-write_static.result in
    puts_then _ _ _ _ _ r c.in_ok-write_opening.ensures.bytes (puts_then _ _ _ _ _ r c.in_ok-write_info.ensures.bytes
    (puts_stop _ _ _ _ _ _ r c.from_residual-in_err-write_static.ensures.1 c.in_err-write_static.ensures.bytes))

pub returns-clause-bytes : goal.returns-clause-bytes
unfolding before_the_frames
returns-clause-bytes g c =
    let r = c.write_p2m_frames.result in
    puts_then _ _ _ _ _ r c.in_ok-write_opening.ensures.bytes (puts_then _ _ _ _ _ r c.in_ok-write_info.ensures.bytes
    (puts_then _ _ _ _ _ r c.in_ok-write_static.ensures.bytes c.write_p2m_frames.ensures.bytes))
